use Rattle.std.proofs.Common.{◌≡◌, ◌∷◌, ◌-◌, Some, ◌∙◌, ap, sym, subst, arith, map}
use Rattle.std.specs.Prelude.{Err}
use Rattle.std.proofs.lemmas.Result.{err_from_is_err_and}
use Rattle.setl_value.specs.code.Body.{Members}
use Rattle.setl_value.specs.code.DatumOf.{datum, part}
use Rattle.setl_operators_table.specs.Folds.{fold_on, fold_list}
use Rattle.setl_operators_table.specs.Outcome.{adding}
use Rattle.setl_operators_table.specs.code.Answers.{Tells}
use Rattle.setl_operators.specs.Combinations.{combination}
use Rattle.setl_operators.proofs.Components.{first_member}
use Rattle.setl_operators.proofs.Steps.{goes_on, ends}
use Rattle.setl_operators.proofs.folds.fold_members.Goals as goal

pub loop-v-init : goal.loop-v-init
loop-v-init c =
    let ds = Members c.args.s.now in
    let d = datum c.in-Some.first.now in
    let rest = c.into_iter-v-iterator.result in
    let whole : ds ≡ d ∷ rest = cc (c.members-members.ensures, c.in-Some.ensures.steps, c.into_iter-v-iterator.ensures.into_iter_gives) in
    (omega arith, first_member (combination c.args.by) ds d rest (datum c.in_ok-copy.field-0) c.args.turns whole (ap datum c.in_ok-copy.ensures.same))

pub loop-v-preserved : goal.loop-v-preserved
loop-v-preserved c =
    let f = combination c.args.by in
    let d = datum c.in-Some-v.v.now in
    let rest = c.next-in-loop-v.new.self in
    let m = c.loop-v.answer.charged in
    let v = part c.loop-v.answer.value in
    let whole : c.loop-v.v-iterator ≡ d ∷ rest = cc c.in-Some-v.ensures.steps in (
      c.in_ok-answer.ensures.within,
      goes_on f v (Some d) (map Some rest) m c.in_ok-answer.answer.charged c.args.turns (part c.in_ok-answer.answer.value) c.in_ok-answer.ensures.tells
          ∙ ap (λ l. adding m (fold_on f v (map Some l) (c.args.turns - m))) (sym whole) ∙ c.loop-v.invariant.1,
    )

pub returns-in_err-answer : goal.returns-in_err-answer
returns-in_err-answer c =
    let f = combination c.args.by in
    let d = datum c.in-Some-v.v.now in
    let rest = c.next-in-loop-v.new.self in
    let m = c.loop-v.answer.charged in
    let v = part c.loop-v.answer.value in
    let total = fold_list f (map Some (Members c.args.s.now)) c.args.turns in
    let whole : c.loop-v.v-iterator ≡ d ∷ rest = cc c.in-Some-v.ensures.steps in
    let so_far : adding m (fold_on f v (Some d ∷ map Some rest) (c.args.turns - m)) ≡ total = ap (λ l. adding m (fold_on f v (map Some l) (c.args.turns - m))) (sym whole) ∙ c.loop-v.invariant.1 in
    let p = err_from_is_err_and c.from_residual-in_err-answer.result c.from_residual-in_err-answer.ensures.1 in
    let h = ends f v (Some d) (map Some rest) m c.args.turns c.in_err-answer.field-0.0 total so_far c.in_err-answer.ensures.tells in
    subst (λ r. Tells r total) (sym (p.1 ∙ ap Err p.2)) h
