use Rattle.std.proofs.Common.{◌≡◌, drop}
use Rattle.setl_program.specs.code.Plain.{plain_slots}
use Rattle.setl_code.specs.Generated.{store_slots}
use Rattle.setl_gen_emitter.specs.Emitted.{held, after}
use Rattle.setl_gen_emitter.proofs.binds.store_all.Given as goal

abbrev pub invariant-loop-x : goal.invariant-loop-x
invariant-loop-x l = after (store_slots l.line (plain_slots (drop l.x-index l.xs))) (held l.emitter) ≡ after (store_slots l.line (plain_slots l.xs)) (held l.initial.emitter)
