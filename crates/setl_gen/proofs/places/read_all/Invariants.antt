use Rattle.std.proofs.Common.{◌≡◌, drop, map}
use Rattle.setl_program.specs.code.Plain.{plain_variable}
use Rattle.setl_code.specs.Generated.{read_all}
use Rattle.setl_gen_emitter.specs.Emitted.{held, after}
use Rattle.setl_gen.proofs.places.read_all.Given as goal

abbrev pub invariant-loop-x : goal.invariant-loop-x
invariant-loop-x l = after (read_all l.line (map plain_variable (drop l.x-index l.xs))) (held l.emitter) ≡ after (read_all l.line (map plain_variable l.xs)) (held l.initial.emitter)
