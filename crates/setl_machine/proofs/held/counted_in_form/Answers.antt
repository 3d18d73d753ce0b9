use Rattle.std.proofs.Common.{◌≡◌, ◌∙◌, [], ◌∷◌, drop, ap, sym, subst}
use Rattle.std.proofs.lemmas.Int.{to_z-of_z}
use Rattle.std.specs.Int.{w128}
use Rattle.setl_value.specs.Datum.{int}
use Rattle.setl_operators_table.specs.Operators.{op_of}
use Rattle.setl_operators_table.specs.Outcome.{value}
use Rattle.setl_code.specs.CodeCore.{Result as Holds}
use Rattle.setl_rep_plain.specs.Standing.{held_value}
use Rattle.setl_store_operands.specs.Lending.{value_as}
use Rattle.setl_machine.proofs.held.counted_in_form.Goals as goal

pub returns-in-Some-size : goal.returns-in-Some-size
returns-in-Some-size c =
    let bs = c.in-Some.bases.now in
    let xs = c.args.store.now.core.now.operands in
    let s = held_value bs c.in-Based.set.now in
    let on : xs ≡ Holds s ∷ drop 1 xs = subst (λ u. xs ≡ Holds u ∷ drop 1 xs) (ap (value_as bs) c.in-Based.is) c.in-Some.ensures.value in
    let count = ap (λ z. value (int z)) (to_z-of_z w128 c.from.result (record { sfits = c.from.type_inv }) ∙ c.from.ensures) in
    (s, on, λ left. ap (λ w. op_of w (s ∷ []) left) c.in-Size.is ∙ c.in-Some-size.ensures.value left ∙ sym count)
