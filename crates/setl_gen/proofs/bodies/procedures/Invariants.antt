use Rattle.std.proofs.Common.{◌≡◌, ◌++◌, drop, map}
use Rattle.setl_model_runs.specs.Variable.{Global}
use Rattle.setl_program.specs.code.Plain.{plain_procedure}
use Rattle.setl_code.specs.CodeOf.{procedure_body}
use Rattle.setl_code.specs.Plain.{plain_bodies}
use Rattle.setl_gen.proofs.bodies.procedures.Given as goal

abbrev pub invariant-loop-p : goal.invariant-loop-p
invariant-loop-p l =
    let vars = map Global l.initial.emitter.names.vars in
    (l.emitter.names.vars ≡ l.initial.emitter.names.vars)
    × (plain_bodies vars 0 l.bodies ++ map procedure_body (map plain_procedure (drop l.p-index l.ps)) ≡ plain_bodies vars 0 l.initial.bodies ++ map procedure_body (map plain_procedure l.ps))
