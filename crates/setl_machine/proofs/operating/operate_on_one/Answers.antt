use Rattle.std.proofs.Common.{◌≡◌, ℕ, [], ◌∷◌, Some, Err, drop, subst}
use Rattle.std.proofs.lemmas.Result.{IfOk-weaker}
use Rattle.setl_code.specs.Code.{Operate}
use Rattle.setl_value.specs.code.DatumOf.{datum, part}
use Rattle.setl_operators_table.specs.code.Answers.{Tells}
use Rattle.setl_operators_table.specs.Operators.{op_of}
use Rattle.setl_operators_table.specs.Outcome.{Gives}
use Rattle.setl_machine.specs.Operating.{PutsForOne}
use Rattle.setl_machine_control.specs.Working.{Does}
use Rattle.setl_machine.proofs.Operated.{operated_one, one_not, plain_on_top}
use Rattle.setl_machine.proofs.operating.operate_on_one.Goals as goal

pub put_for_one-requires-clause-one : goal.put_for_one-requires-clause-one
put_for_one-requires-clause-one c =
    let xs = c.args.store.now.core.now.operands in
    plain_on_top xs (drop 1 xs) (Some (datum c.in-Some.a.now)) c.in-Some.ensures

pub returns-in-Ok-clause-did : goal.returns-in-Ok-clause-did
returns-in-Ok-clause-did c =
    let old = c.args.store.now in
    let new = c.put_for_one.new.store in
    let from = c.args.control.now in
    let to = c.charge.new.self in
    let gives : op_of c.args.what (Some (datum c.in-Some.a.now) ∷ []) from.turns ≡ Gives (part c.in-Ok.answer.value) c.in-Ok.answer.charged =
    subst (λ (turns : ℕ). op_of c.args.what (Some (datum c.in-Some.a.now) ∷ []) turns ≡ Gives (part c.in-Ok.answer.value) c.in-Ok.answer.charged) c.turns.ensures c.in-Ok.ensures in
    IfOk-weaker c.put_for_one.result (λ e. PutsForOne old (part c.in-Ok.answer.value) new e) (λ e. Does old from c.args.line (Operate c.args.what c.args.count) new to e)
    (λ e h. operated_one old new from to c.args.line c.args.count c.in-Ok.answer.charged c.args.what (Some (datum c.in-Some.a.now)) (part c.in-Ok.answer.value) e c.requires.one c.requires.fits c.in-Some.ensures gives c.charge.ensures h)
    c.put_for_one.ensures

pub returns-in-Err-clause-did : goal.returns-in-Err-clause-did
returns-in-Err-clause-did c =
    let from = c.args.control.now in
    let told : Tells (Err c.in-Err.fault) (op_of c.args.what (Some (datum c.in-Some.a.now) ∷ []) from.turns) =
    subst (λ (turns : ℕ). Tells (Err c.in-Err.fault) (op_of c.args.what (Some (datum c.in-Some.a.now) ∷ []) turns)) c.turns.ensures c.in-Err.ensures in
    one_not c.args.store.now from c.args.line c.args.count c.args.what (Some (datum c.in-Some.a.now)) c.in-Err.fault c.end_by.result c.requires.one c.requires.fits c.in-Some.ensures told c.end_by.ensures
