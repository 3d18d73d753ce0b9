use Rattle.std.proofs.Common.{arith, ◌≡◌, sym, ◌∙◌, rules, true, refl, Err}
use Rattle.std.proofs.lemmas.Bool.{ltb-true, ltb-false}
use Rattle.setl_value.specs.code.Body.{Members}
use Rattle.setl_value.specs.code.DatumOf.{datum, part}
use Rattle.setl_value.specs.Pairs.{is_map}
use Rattle.setl_map.specs.declared.MapFault.TheVariants.{Deep}
use Rattle.setl_map.proofs.MapResults.{deep_put}
use Rattle.setl_map.proofs.maps.put.Goals as goal

pub returns-then-is_deep-clause-deep : goal.returns-then-is_deep-clause-deep
returns-then-is_deep-clause-deep c =
    let t = deep_put (datum c.args.x) (part c.args.y) (Members c.args.f.now) c.learn.ensures.1 in
    let m : is_map (Members c.args.f.now) ≡ true = search rules in
    (λ _. (m, ltb-true 500 _ (sym t ∙ sym c.is_deep.ensures ∙ c.if-is_deep.true)), λ _. refl)

pub returns-in_err-put_shallow-clause-deep : goal.returns-in_err-put_shallow-clause-deep
returns-in_err-put_shallow-clause-deep c =
    let t = deep_put (datum c.args.x) (part c.args.y) (Members c.args.f.now) c.learn.ensures.1 in
    let no : (c.from_residual.result ≡ Err Deep → ⊥) = search rules in
    (λ e. absurd (no e), λ h. absurd (omega (arith, h.1, ltb-false 500 _ (sym t ∙ sym c.is_deep.ensures ∙ c.if-is_deep.false))))

pub returns-clause-deep : goal.returns-clause-deep
returns-clause-deep c =
    let t = deep_put (datum c.args.x) (part c.args.y) (Members c.args.f.now) c.learn.ensures.1 in
    (λ e. absurd cc, λ h. absurd (omega (arith, h.1, ltb-false 500 _ (sym t ∙ sym c.is_deep.ensures ∙ c.if-is_deep.false))))
