use Rattle.std.proofs.Common.{◌≡◌, ℕ, [], ◌∷◌, Err, drop, subst}
use Rattle.std.proofs.lemmas.Result.{IfOk-weaker}
use Rattle.setl_code.specs.Code.{Operate}
use Rattle.setl_value.specs.code.DatumOf.{lent, part}
use Rattle.setl_operators_table.specs.code.Answers.{Tells}
use Rattle.setl_operators_table.specs.Operators.{op_of}
use Rattle.setl_operators_table.specs.Outcome.{Gives}
use Rattle.setl_machine.specs.Operating.{PutsForTwo}
use Rattle.setl_machine_control.specs.Working.{Does}
use Rattle.setl_machine.proofs.Operated.{operated_two, two_not, two_there}
use Rattle.setl_machine.proofs.operating.operate_on_two.Goals as goal

pub put_for_two-requires-clause-two : goal.put_for_two-requires-clause-two
put_for_two-requires-clause-two c =
    let xs = c.args.store.now.core.now.operands in
    two_there xs (drop 2 xs) (lent c.in-Some.a) (lent c.in-Some.b) c.in-Some.ensures

pub returns-in-Ok-clause-did : goal.returns-in-Ok-clause-did
returns-in-Ok-clause-did c =
    let old = c.args.store.now in
    let new = c.put_for_two.new.store in
    let from = c.args.control.now in
    let to = c.charge.new.self in
    let gives : op_of c.args.what (lent c.in-Some.a ∷ lent c.in-Some.b ∷ []) from.turns ≡ Gives (part c.in-Ok.answer.value) c.in-Ok.answer.charged =
    subst (λ (turns : ℕ). op_of c.args.what (lent c.in-Some.a ∷ lent c.in-Some.b ∷ []) turns ≡ Gives (part c.in-Ok.answer.value) c.in-Ok.answer.charged) c.turns.ensures c.in-Ok.ensures in
    IfOk-weaker c.put_for_two.result (λ e. PutsForTwo old (part c.in-Ok.answer.value) new e) (λ e. Does old from c.args.line (Operate c.args.what c.args.count) new to e)
    (λ e h. operated_two old new from to c.args.line c.args.count c.in-Ok.answer.charged c.args.what (lent c.in-Some.a) (lent c.in-Some.b) (part c.in-Ok.answer.value) e c.requires.two c.requires.fits c.in-Some.ensures gives c.charge.ensures h)
    c.put_for_two.ensures

pub returns-in-Err-clause-did : goal.returns-in-Err-clause-did
returns-in-Err-clause-did c =
    let from = c.args.control.now in
    let told : Tells (Err c.in-Err.fault) (op_of c.args.what (lent c.in-Some.a ∷ lent c.in-Some.b ∷ []) from.turns) =
    subst (λ (turns : ℕ). Tells (Err c.in-Err.fault) (op_of c.args.what (lent c.in-Some.a ∷ lent c.in-Some.b ∷ []) turns)) c.turns.ensures c.in-Err.ensures in
    two_not c.args.store.now from c.args.line c.args.count c.args.what (lent c.in-Some.a) (lent c.in-Some.b) c.in-Err.fault c.end_by.result c.requires.two c.requires.fits c.in-Some.ensures told c.end_by.ensures
