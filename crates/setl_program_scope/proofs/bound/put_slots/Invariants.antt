use Rattle.std.proofs.Common.{◌≡◌, drop}
use Rattle.setl_names.specs.Names.{with_names}
use Rattle.setl_names.specs.Occurrences.{names_of_slots}
use Rattle.setl_program_scope.proofs.bound.put_slots.Given as goal

abbrev pub invariant-loop-slot : goal.invariant-loop-slot
invariant-loop-slot l = with_names l.all (names_of_slots (drop l.slot-index l.slots)) ≡ with_names l.initial.all (names_of_slots l.slots)
