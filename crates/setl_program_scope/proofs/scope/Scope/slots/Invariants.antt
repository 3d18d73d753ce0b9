use Rattle.std.proofs.Common.{◌≡◌, map, take}
use Rattle.setl_program.specs.code.Plain.{plain_slots}
use Rattle.setl_program.specs.Scope.{slot_variable, bound_by}
use Rattle.setl_program_scope.proofs.scope.Scope.slots.Given as goal

abbrev pub invariant-loop-slot : goal.invariant-loop-slot
invariant-loop-slot l = plain_slots l.all ≡ map (slot_variable (bound_by l.former l.self)) (take l.slot-index l.slots)
