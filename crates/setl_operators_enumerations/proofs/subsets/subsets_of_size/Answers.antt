use Rattle.std.proofs.Common.{◌<◌, ◌≤◌, Err, subst, ap, ◌∙◌}
use Rattle.setl_value.specs.code.Body.{Members}
use Rattle.setl_operators_table.specs.code.Answers.{Tells}
use Rattle.setl_operators_enumerations.specs.Counts.{choose}
use Rattle.setl_operators_enumerations.proofs.Outcomes.{some_spent, some_paid, some_deep}
use Rattle.setl_operators_enumerations.proofs.subsets.subsets_of_size.Goals as goal

pub returns-in_default : goal.returns-in_default
returns-in_default c = some_spent c.args.turns c.args.n (Members c.args.s.now) (subst (λ m. c.args.turns < choose m c.args.n) c.len.ensures c.in_default.ensures)

pub returns-in-Ok : goal.returns-in-Ok
returns-in-Ok c =
    subst (Tells c.charged.result)
    (some_paid c.args.turns c.args.n c.in-Some.count (Members c.args.s.now) (Members c.in-Ok.sets) (c.in-Some.ensures.0 ∙ ap (λ m. choose m c.args.n) c.len.ensures) (subst (λ m. choose m c.args.n ≤ c.args.turns) c.len.ensures c.in-Some.ensures.1) c.in-Ok.ensures.all)
    c.charged.ensures

pub returns-in-Err-Deep : goal.returns-in-Err-Deep
returns-in-Err-Deep c =
    some_deep c.args.turns c.args.n (Members c.args.s.now) (subst (λ m. choose m c.args.n ≤ c.args.turns) c.len.ensures c.in-Some.ensures.1) (c.npow.ensures.deep.0 (c.in-Err-Deep.is ∙ ap Err c.in-Err-Deep.field-0-is))
