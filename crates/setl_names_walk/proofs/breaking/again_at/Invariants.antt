use Rattle.std.proofs.Common.{◌≡◌, [], drop, map}
use Rattle.setl_names_walk.specs.Breaking as spec
use Rattle.setl_names_walk.proofs.breaking.again_at.Given as goal

abbrev pub invariant-loop-item : goal.invariant-loop-item
invariant-loop-item g l = spec.again_at l.line l.seen (map g.T.Declares.entry_of (drop l.item-index l.items)) ≡ spec.again_at l.line [] (map g.T.Declares.entry_of l.items)
