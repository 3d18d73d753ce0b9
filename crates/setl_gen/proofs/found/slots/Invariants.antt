use Rattle.std.proofs.Common.{◌≡◌, ◌++◌, drop}
use Rattle.setl_program.specs.code.Plain.{plain_slots}
use Rattle.setl_model.specs.Slots.{variables_in}
use Rattle.setl_gen.proofs.found.slots.Given as goal

abbrev pub invariant-loop-x : goal.invariant-loop-x
invariant-loop-x l = l.all ++ variables_in (plain_slots (drop l.x-index l.xs)) ≡ l.initial.all ++ variables_in (plain_slots l.xs)
