use Rattle.std.proofs.Common.{map, Some}
use Rattle.std.proofs.lemmas.Result.{IfOk-weaker}
use Rattle.setl_code.specs.Code.{CallBody}
use Rattle.setl_value.specs.code.DatumOf.{part}
use Rattle.setl_machine_control.specs.Working.{DoesBy}
use Rattle.setl_machine.specs.Working.{TakesArguments, Begins}
use Rattle.setl_machine.proofs.Entering.{begun}
use Rattle.setl_machine.proofs.calling.call.Goals as goal

pub returns-clause-did : goal.returns-clause-did
returns-clause-did c = λ modes main bare.
    let old = c.args.store.now in
    let mid = c.arguments.new.store in
    let new = c.begin.new.store in
    let from = c.args.control.now in
    let to = c.begin.new.control in
    let vs = map part c.in-Some.values.items in
    let taken : TakesArguments c.args.body old (Some vs) mid = rw c.in-Some.is at c.in_ok-values.ensures.taken in
    IfOk-weaker c.begin.result (λ e. Begins c.args.body vs mid from new to e) (λ e. DoesBy modes old from c.args.line (CallBody c.args.body) new to e)
    (λ e g. begun modes old mid new from to c.args.body c.args.line vs e main bare taken g) c.begin.ensures.did
