use Rattle.std.proofs.Common.{◌≡◌, ◌∙◌, ℕ, ◌∷◌, [], Some, IfSome, ap, subst}
use Rattle.setl_value.specs.code.DatumOf.{datum}
use Rattle.setl_operators_table.specs.declared.Operator.TheVariants.{Get}
use Rattle.setl_operators_table.specs.Operators.{op_of}
use Rattle.setl_operators_table.specs.Outcome.{Gives}
use Rattle.setl_rep_forms.specs.FormOf.{form}
use Rattle.setl_rep_forms.specs.Stands.{stands}
use Rattle.setl_rep_plain.specs.Standing.{held_value}
use Rattle.setl_rep.proofs.by_table.image_at.Goals as goal

pub returns-in-Some-2-clause-value : goal.returns-in-Some-2-clause-value
returns-in-Some-2-clause-value c =
    let bs = c.args.bases.now in
    let f = stands bs (form c.args.f.now) in
    λ left.
    ap (λ o. op_of Get (f ∷ o ∷ []) left) c.in-Some.ensures.value
    ∙ subst (λ o. IfSome o (λ h. (turns : ℕ) → op_of Get (f ∷ Some (datum c.in-Some.v.now) ∷ []) turns ≡ Gives (held_value bs h) 0)) c.in-Some-2.is c.in_ok-image.ensures.value left
