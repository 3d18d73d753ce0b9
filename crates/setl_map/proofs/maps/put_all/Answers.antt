use Rattle.std.proofs.Common.{arith, ◌≡◌, sym, ◌∙◌, rules, true, refl, Err}
use Rattle.std.proofs.lemmas.Bool.{ltb-true, ltb-false}
use Rattle.setl_value.specs.code.Body.{Members}
use Rattle.setl_value.specs.code.DatumOf.{datum}
use Rattle.setl_value.specs.Pairs.{is_map}
use Rattle.setl_map.specs.declared.MapFault.TheVariants.{Deep}
use Rattle.setl_map.proofs.MapResults.{deep_put_all}
use Rattle.setl_map.proofs.maps.put_all.Goals as goal

pub returns-then-are_deep-clause-deep : goal.returns-then-are_deep-clause-deep
returns-then-are_deep-clause-deep c =
    let t = deep_put_all (datum c.args.x) (Members c.args.s.now) (Members c.args.f.now) c.learn.ensures.1 in
    let m : is_map (Members c.args.f.now) ≡ true = search rules in
    (λ _. (m, ltb-true 500 _ (sym t ∙ sym c.are_deep.ensures ∙ c.if-are_deep.true)), λ _. refl)

pub returns-in_err-put_shallow_images-clause-deep : goal.returns-in_err-put_shallow_images-clause-deep
returns-in_err-put_shallow_images-clause-deep c =
    let t = deep_put_all (datum c.args.x) (Members c.args.s.now) (Members c.args.f.now) c.learn.ensures.1 in
    let no : (c.from_residual.result ≡ Err Deep → ⊥) = search rules in
    (λ e. absurd (no e), λ h. absurd (omega (arith, h.1, ltb-false 500 _ (sym t ∙ sym c.are_deep.ensures ∙ c.if-are_deep.false))))

pub returns-clause-deep : goal.returns-clause-deep
returns-clause-deep c =
    let t = deep_put_all (datum c.args.x) (Members c.args.s.now) (Members c.args.f.now) c.learn.ensures.1 in
    (λ e. absurd cc, λ h. absurd (omega (arith, h.1, ltb-false 500 _ (sym t ∙ sym c.are_deep.ensures ∙ c.if-are_deep.false))))
