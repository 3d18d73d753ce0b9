use Rattle.std.proofs.Common.{◌<◌, ◌≤◌, ◌^◌, Err, subst, ap, ◌∙◌}
use Rattle.setl_value.specs.code.Body.{Members}
use Rattle.setl_operators_table.specs.code.Answers.{Tells}
use Rattle.setl_operators_enumerations.proofs.Outcomes.{all_spent, all_paid, all_deep}
use Rattle.setl_operators_enumerations.proofs.subsets.all_subsets.Goals as goal

pub returns-in_default : goal.returns-in_default
returns-in_default c = all_spent c.args.turns (Members c.args.s.now) (subst (λ n. c.args.turns < 2 ^ n) c.len.ensures c.in_default.ensures)

pub returns-in-Ok : goal.returns-in-Ok
returns-in-Ok c =
    subst (Tells c.charged.result)
    (all_paid c.args.turns c.in-Some.count (Members c.args.s.now) (Members c.in-Ok.sets) (c.in-Some.ensures.0 ∙ ap (λ n. 2 ^ n) c.len.ensures) (subst (λ n. 2 ^ n ≤ c.args.turns) c.len.ensures c.in-Some.ensures.1) c.in-Ok.ensures.all)
    c.charged.ensures

pub returns-in-Err-Deep : goal.returns-in-Err-Deep
returns-in-Err-Deep c = all_deep c.args.turns (Members c.args.s.now) (subst (λ n. 2 ^ n ≤ c.args.turns) c.len.ensures c.in-Some.ensures.1) (c.pow.ensures.deep.0 (c.in-Err-Deep.is ∙ ap Err c.in-Err-Deep.field-0-is))
