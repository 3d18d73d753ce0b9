use Rattle.std.proofs.Common.{◌≡◌, ◌++◌, drop, map}
use Rattle.std.specs.List.{AllByRecursion}
use Rattle.setl_image_codec.specs.Codec.{write_all}
use Rattle.setl_image_codec.proofs.lists.push_items.Given as goal

abbrev pub invariant-loop-item : goal.invariant-loop-item
invariant-loop-item g l = (l.into.items ++ write_all (g.C.Coder.codec l.coder) (map g.C.Coder.view (drop l.item-index l.items)) ≡ l.fn.into.items ++ write_all (g.C.Coder.codec l.coder) (map g.C.Coder.view l.items)) × AllByRecursion (g.C.Coder.codec l.coder).Fits (map g.C.Coder.view (drop l.item-index l.items))
