use Rattle.std.proofs.Common.{◌≡◌, drop}
use Rattle.setl_program.specs.code.Plain.{plain_arguments}
use Rattle.setl_code.specs.Generated.{store_slots, set_by}
use Rattle.setl_gen_emitter.specs.Emitted.{held, after}
use Rattle.setl_gen_emitter.proofs.binds.store_set.Given as goal

abbrev pub invariant-loop-k : goal.invariant-loop-k
invariant-loop-k l = after (store_slots l.line (set_by (plain_arguments (drop l.k l.all)))) (held l.emitter) ≡ after (store_slots l.line (set_by (plain_arguments l.all))) (held l.initial.emitter)
