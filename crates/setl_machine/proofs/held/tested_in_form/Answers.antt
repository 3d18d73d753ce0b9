use Rattle.std.proofs.Common.{◌≡◌, ℕ, not, [], ◌∷◌, IfSome, drop, ap, sym, subst}
use Rattle.std.proofs.lemmas.Result.{IfOk-weaker}
use Rattle.setl_operators_table.specs.declared.Operator.TheVariants.{In}
use Rattle.setl_operators_table.specs.Operators.{op_of}
use Rattle.setl_operators_table.specs.Outcome.{truth}
use Rattle.setl_operators_table.specs.Truths.{opposite}
use Rattle.setl_code.specs.CodeCore.{Result as Holds}
use Rattle.setl_rep_plain.specs.Standing.{held_value}
use Rattle.setl_store_operands.specs.Lending.{value_as}
use Rattle.setl_machine.specs.Held.{TellsOfTwo}
use Rattle.setl_machine.proofs.Members.{tells}
use Rattle.setl_machine.proofs.held.tested_in_form.Goals as goal

pub returns-in-In : goal.returns-in-In
returns-in-In c =
    let bs = c.in-Some.bases.now in
    let xs = c.args.store.now.core.now.operands in
    let a = value_as bs c.in-Some.lower in
    let b = held_value bs c.in-Based.set.now in
    let on : xs ≡ Holds b ∷ Holds a ∷ drop 2 xs = subst (λ u. xs ≡ Holds u ∷ Holds a ∷ drop 2 xs) (ap (value_as bs) c.in-Based.is) c.in-Some.ensures.values in
    IfOk-weaker c.is_member.result (λ x. IfSome x (λ t. (left : ℕ) → op_of In (a ∷ b ∷ []) left ≡ truth t)) (λ x. IfSome x (TellsOfTwo c.args.what xs))
    (λ x h. tells xs a b on c.args.what c.in-In.is x h)
    c.is_member.ensures

pub returns-in-Some-2 : goal.returns-in-Some-2
returns-in-Some-2 c =
    let bs = c.in-Some.bases.now in
    let xs = c.args.store.now.core.now.operands in
    let a = value_as bs c.in-Some.lower in
    let b = held_value bs c.in-Based.set.now in
    let on : xs ≡ Holds b ∷ Holds a ∷ drop 2 xs = subst (λ u. xs ≡ Holds u ∷ Holds a ∷ drop 2 xs) (ap (value_as bs) c.in-Based.is) c.in-Some.ensures.values in
    let h : (left : ℕ) → op_of In (a ∷ b ∷ []) left ≡ truth c.in-Some-2.t = rw c.in-Some-2.is at c.in_ok-t-in-NotIn.ensures in
    (a, b, on, λ left. subst (λ w. op_of w (a ∷ b ∷ []) left ≡ truth (not c.in-Some-2.t)) (sym c.in-NotIn.is) (ap opposite (h left)))
