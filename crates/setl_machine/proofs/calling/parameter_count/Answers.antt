use Rattle.std.proofs.Common.{◌≡◌, map, length, Some, sym, subst}
use Rattle.std.specs.Prelude.{slice_get, IfSome}
use Rattle.setl_code.specs.Plain.{plain_bodies}
use Rattle.setl_model_runs.specs.Variable.{Global}
use Rattle.setl_machine.specs.Working.{HasParameters}
use Rattle.setl_machine.proofs.Entering.{has_none, has_some}
use Rattle.setl_machine.proofs.calling.parameter_count.Goals as goal

pub returns-in-Some-clause-count : goal.returns-in-Some-clause-count
returns-in-Some-clause-count c = subst (λ b. IfSome b (λ b. length b.parameters ≡ c.len.result)) (sym c.in-Some.ensures.some) (sym c.len.ensures)

pub returns-in-Some-clause-plain : goal.returns-in-Some-clause-plain
returns-in-Some-clause-plain c =
    let vars = map Global c.args.code.now.vars in
    subst (λ n. HasParameters (slice_get (plain_bodies vars 0 c.args.code.now.bodies) c.args.body) (Some n)) (sym c.len.ensures) (has_some vars c.args.code.now.bodies c.args.body c.in-Some.body.now c.in-Some.ensures.some)

pub returns-in-None-clause-plain : goal.returns-in-None-clause-plain
returns-in-None-clause-plain c = has_none (map Global c.args.code.now.vars) c.args.code.now.bodies c.args.body c.in-None.ensures.none
