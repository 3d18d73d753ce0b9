use Rattle.std.proofs.Common.{Some, ◌∙◌, ap, sym, subst, arith}
use Rattle.std.specs.Prelude.{Err}
use Rattle.std.proofs.lemmas.Result.{err_from_is_err_and}
use Rattle.setl_value.specs.code.DatumOf.{lent, part}
use Rattle.setl_operators_table.specs.Folds.{fold_list}
use Rattle.setl_operators_table.specs.code.Answers.{Tells}
use Rattle.setl_operators.specs.Combinations.{combination}
use Rattle.setl_operators.proofs.Components.{component_of, started}
use Rattle.setl_operators.proofs.Steps.{steps, stops}
use Rattle.setl_operators.proofs.folds.fold_components.Goals as goal

pub loop-i-init : goal.loop-i-init
loop-i-init c =
    let ps = c.args.t.now in
    let first = component_of ps 0 c.at.result (omega (arith, c.len.ensures, c.if-len-eq0.false)) c.at.ensures in
    (omega arith, started (combination c.args.by) ps (part c.in_ok-copied.field-0) c.args.turns (first ∙ ap Some (sym c.in_ok-copied.ensures)))

pub loop-i-preserved : goal.loop-i-preserved
loop-i-preserved c = (
  c.in_ok-answer.ensures.within,
  steps (combination c.args.by) c.args.t.now c.loop-i.i (part c.loop-i.answer.value) (lent c.at-in-loop-i.result) c.loop-i.answer.charged c.in_ok-answer.answer.charged c.args.turns (part c.in_ok-answer.answer.value)
      (component_of c.args.t.now c.loop-i.i c.at-in-loop-i.result (omega arith) c.at-in-loop-i.ensures) c.in_ok-answer.ensures.tells ∙ c.loop-i.invariant.1,
)

pub returns-in_err-answer : goal.returns-in_err-answer
returns-in_err-answer c =
    let total = fold_list (combination c.args.by) c.args.t.now c.args.turns in
    let e = c.in_err-answer.field-0.0 in
    let p = err_from_is_err_and c.from_residual-in_err-answer.result c.from_residual-in_err-answer.ensures.1 in
    let h = stops (combination c.args.by) c.args.t.now c.loop-i.i (part c.loop-i.answer.value) (lent c.at-in-loop-i.result) c.loop-i.answer.charged c.args.turns e total
    (component_of c.args.t.now c.loop-i.i c.at-in-loop-i.result (omega arith) c.at-in-loop-i.ensures) c.loop-i.invariant.1 c.in_err-answer.ensures.tells in
    subst (λ r. Tells r total) (sym (p.1 ∙ ap Err p.2)) h
