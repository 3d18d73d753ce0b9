use Rattle.std.proofs.Common.{◌≡◌, ◌++◌, drop}
use Rattle.setl_program.specs.code.Plain.{plain_slots}
use Rattle.setl_advise_conditions.specs.Parts.{slot_conditions}
use Rattle.setl_advise_gathering.specs.code.Plain.{listed, plain_term}
use Rattle.setl_advise_gathering.proofs.bindings.slots.Given as goal

abbrev pub invariant-loop-x : goal.invariant-loop-x
invariant-loop-x l = listed l.all.items ++ slot_conditions (plain_term l.term) (plain_slots (drop l.x-index l.xs)) ≡ listed l.initial.all.items ++ slot_conditions (plain_term l.term) (plain_slots l.xs)
