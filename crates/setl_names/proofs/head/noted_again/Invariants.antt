use Rattle.std.proofs.Common.{◌≡◌, [], drop, fold, map}
use Rattle.setl_names.specs.Breaks.{earlier, tagged}
use Rattle.setl_names.specs.Heads as heads
use Rattle.setl_names.proofs.head.noted_again.Given as goal

abbrev pub invariant-loop-item : goal.invariant-loop-item
invariant-loop-item g l = fold earlier l.first (tagged l.rule (heads.lines_again l.seen (map g.T.Declares.entry_of (drop l.item-index l.items)))) ≡ fold earlier l.initial.first (tagged l.rule (heads.lines_again [] (map g.T.Declares.entry_of l.items)))
