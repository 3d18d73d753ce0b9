use Rattle.std.proofs.Common.{◌≡◌, ◌++◌, drop}
use Rattle.setl_names.specs.Occurrences as spec
use Rattle.setl_names_walk.proofs.bound.add_slots.Given as goal

abbrev pub invariant-loop-slot : goal.invariant-loop-slot
invariant-loop-slot l = l.names ++ spec.names_of_slots (drop l.slot-index l.slots) ≡ l.initial.names ++ spec.names_of_slots l.slots
