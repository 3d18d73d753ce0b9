use Rattle.std.proofs.lemmas.Result.{on_ok_weaker}
use Rattle.setl_program.specs.code.Plain.{plain_arguments}
use Rattle.setl_advise_gathering.specs.code.Plain.{listed}
use Rattle.setl_advise_gathering.proofs.Passes.{call_of_none, call_of_one}
use Rattle.setl_advise_gathering.proofs.bindings.call.Goals as goal

pub returns-in-None : goal.returns-in-None
returns-in-None c = call_of_none c.args.procedures.now c.args.f (plain_arguments c.args.xs.now) (listed c.args.all.now.items) c.in-None.ensures.none

pub returns-in-Some : goal.returns-in-Some
returns-in-Some c =
    on_ok_weaker c.passed.result
    (call_of_one c.args.procedures.now c.args.f (plain_arguments c.args.xs.now) c.in-Some.q.now c.as_slice.result.now (listed c.args.all.now.items) (listed c.passed.new.all.items) c.in-Some.ensures.some c.as_slice.ensures)
    c.passed.ensures
