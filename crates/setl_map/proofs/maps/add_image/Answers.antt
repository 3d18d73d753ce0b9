use Rattle.std.proofs.Common.{arith, ◌≡◌, ◌∙◌, sym, rules, true, refl, Err}
use Rattle.std.proofs.lemmas.Bool.{ltb-true, ltb-false}
use Rattle.setl_value.specs.code.Body.{Members}
use Rattle.setl_value.specs.code.DatumOf.{datum}
use Rattle.setl_value.specs.Pairs.{is_map, pair}
use Rattle.setl_map.specs.declared.MapFault.TheVariants.{Deep}
use Rattle.setl_map.proofs.Adding.{deep_added}
use Rattle.setl_map.proofs.maps.add_image.Goals as goal

pub returns-then-is_deep_pair-clause-deep : goal.returns-then-is_deep_pair-clause-deep
returns-then-is_deep_pair-clause-deep c =
    let t = deep_added (pair (datum c.args.x) (datum c.args.y)) (Members c.args.f.now) _ c.learn.ensures.1 c.learn_added.ensures in
    let m : is_map (Members c.args.f.now) ≡ true = search rules in
    (λ _. (m, ltb-true 500 _ (sym t ∙ sym c.is_deep_pair.ensures ∙ c.if-is_deep_pair.true)), λ _. refl)

pub returns-in_err-add_pair-clause-deep : goal.returns-in_err-add_pair-clause-deep
returns-in_err-add_pair-clause-deep c =
    let t = deep_added (pair (datum c.args.x) (datum c.args.y)) (Members c.args.f.now) _ c.learn.ensures.1 c.learn_added.ensures in
    let no : (c.from_residual.result ≡ Err Deep → ⊥) = search rules in
    (λ r. absurd (no r), λ h. absurd (omega (arith, h.1, ltb-false 500 _ (sym t ∙ sym c.is_deep_pair.ensures ∙ c.if-is_deep_pair.false))))

pub returns-clause-added : goal.returns-clause-added
returns-clause-added c = c.in_ok-add_pair.ensures.added ∙ c.learn_added.ensures

pub returns-clause-deep : goal.returns-clause-deep
returns-clause-deep c =
    let t = deep_added (pair (datum c.args.x) (datum c.args.y)) (Members c.args.f.now) _ c.learn.ensures.1 c.learn_added.ensures in
    (λ r. absurd cc, λ h. absurd (omega (arith, h.1, ltb-false 500 _ (sym t ∙ sym c.is_deep_pair.ensures ∙ c.if-is_deep_pair.false))))
