use Rattle.std.proofs.Common.{◌≡◌, ◌∙◌, ℕ, [], ◌∷◌, Some, IfSome, ap, sym, subst}
use Rattle.setl_operators_table.specs.declared.Operator.TheVariants.{In}
use Rattle.setl_operators_table.specs.Operators.{op_of}
use Rattle.setl_operators_table.specs.Outcome.{truth}
use Rattle.setl_rep_forms.specs.FormOf.{of_plain}
use Rattle.setl_rep_forms.specs.Stands.{stands}
use Rattle.setl_rep_plain.specs.Standing.{held_value}
use Rattle.setl_store_operands.specs.Lending.{value_as}
use Rattle.setl_value.specs.code.DatumOf.{datum}
use Rattle.setl_machine.proofs.held.is_member.Goals as goal

pub returns-in_ok-copy-in-Plain : goal.returns-in_ok-copy-in-Plain
returns-in_ok-copy-in-Plain c =
    let bs = c.args.bases.now in
    let own = c.in_ok-copy-in-Plain.field-0 in
    let same : Some (datum own) ≡ value_as bs c.args.value = ap (λ v. Some (datum v)) c.in_ok-copy-in-Plain.ensures.same ∙ sym (ap (value_as bs) c.in-Plain.is) in
    subst (λ v. IfSome c.is_in.result (λ t. (left : ℕ) → op_of In (v ∷ held_value bs c.args.set.now ∷ []) left ≡ truth t)) (ap (stands bs) (of_plain own) ∙ same) c.is_in.ensures.value

pub returns-in-Based : goal.returns-in-Based
returns-in-Based c =
    let bs = c.args.bases.now in
    subst (λ v. IfSome c.is_in-in-Based.result (λ t. (left : ℕ) → op_of In (v ∷ held_value bs c.args.set.now ∷ []) left ≡ truth t)) (sym (ap (value_as bs) c.in-Based.is)) c.is_in-in-Based.ensures.value
