use Rattle.std.proofs.Common.{◌≡◌, drop}
use Rattle.setl_program.specs.code.Plain.{plain_slots}
use Rattle.setl_model.specs.Slots.{variables_in}
use Rattle.setl_code.specs.Generated.{clear}
use Rattle.setl_gen_emitter.specs.Emitted.{held, after}
use Rattle.setl_gen_emitter.proofs.binds.clear.Given as goal

abbrev pub invariant-loop-x : goal.invariant-loop-x
invariant-loop-x l = after (clear l.line (variables_in (plain_slots (drop l.x-index l.xs)))) (held l.emitter) ≡ after (clear l.line (variables_in (plain_slots l.xs))) (held l.initial.emitter)
