use Rattle.std.proofs.Common.{◌≡◌, take}
use Rattle.setl_tree.proofs.copied.copied_items.Given as goal

abbrev pub invariant-loop-item : goal.invariant-loop-item
invariant-loop-item g l = l.all ≡ take l.item-index l.items
