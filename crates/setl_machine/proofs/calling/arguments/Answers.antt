use Rattle.std.proofs.Common.{◌≡◌, length, subst, Some}
use Rattle.std.specs.Prelude.{slice_get, IfSome}
use Rattle.setl_code.specs.Plain.{plain_code}
use Rattle.setl_machine.specs.Working.{HasParameters}
use Rattle.setl_machine.proofs.Entering.{takes_arguments, each_argument}
use Rattle.setl_machine.proofs.calling.arguments.Goals as goal

pub returns-clause-taken : goal.returns-clause-taken
returns-clause-taken c =
    let old = c.args.store.now in
    let has : HasParameters (slice_get (plain_code old.code).bodies c.args.body) (Some c.in-Some.count) = subst (λ d. HasParameters (slice_get (plain_code d).bodies c.args.body) (Some c.in-Some.count)) c.code.ensures c.in-Some.ensures.plain in
    takes_arguments old c.pop_values.new.self c.args.body c.in-Some.count c.pop_values.result has c.pop_values.ensures.values c.pop_values.ensures.rest

pub returns-clause-each : goal.returns-clause-each
returns-clause-each c =
    let old = c.args.store.now in
    let many : IfSome (slice_get old.code.bodies c.args.body) (λ b. length b.parameters ≡ c.in-Some.count) = subst (λ d. IfSome (slice_get d.bodies c.args.body) (λ b. length b.parameters ≡ c.in-Some.count)) c.code.ensures c.in-Some.ensures.count in
    each_argument old c.pop_values.new.self c.args.body c.in-Some.count c.pop_values.result many c.pop_values.ensures.values c.pop_values.ensures.rest
