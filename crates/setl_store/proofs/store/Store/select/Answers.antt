use Rattle.std.proofs.Common.{◌≡◌, ℕ, [], ◌∷◌, drop, arith}
use Rattle.setl_operators_table.specs.Operators.{op_of}
use Rattle.setl_operators_table.specs.Outcome.{Gives}
use Rattle.setl_code.specs.CodeCore.{Result as Holds}
use Rattle.setl_rep_plain.specs.Standing.{held_value}
use Rattle.setl_store_operands.specs.Lending.{value_as}
use Rattle.setl_store.specs.Standing.{over}
use Rattle.setl_store.proofs.HeldOperands.{both_held, held_stands}
use Rattle.setl_store.proofs.LastOperand.{two_set}
use Rattle.setl_store.proofs.OperandLists.{Changed}
use Rattle.setl_store.proofs.store.Store.select.Goals as goal
use Rattle.setl_store.proofs.store.Store.select.Goals.{In_ok-put_for_two}

pub selected-requires-clause-map : goal.selected-requires-clause-map
selected-requires-clause-map c = held_stands c.self.inside.code.now c.self.inside.bases c.self.inside.at c.self.inside.environment.now c.self.inside.environment.kept c.args.self.now c.self.invariant.1 c.self.view_is 1 c.in-Some-held_below.lower c.in-Some-held_below.ensures

pub selected-requires-clause-at : goal.selected-requires-clause-at
selected-requires-clause-at c = held_stands c.self.inside.code.now c.self.inside.bases c.self.inside.at c.self.inside.environment.now c.self.inside.environment.kept c.args.self.now c.self.invariant.1 c.self.view_is 0 c.in-Some.upper c.in-Some.ensures

pub put_for_two-requires : goal.put_for_two-requires
put_for_two-requires c = omega (arith, c.in-Some-held_below.ensures.there)

done : (c : In_ok-put_for_two) → Changed c.self.inside.code.now c.self.inside.bases c.self.inside.keeps c.self.inside.at c.put_for_two.new.environment.now c.put_for_two.new.environment.kept c.args.self.now (over (Holds (held_value c.self.inside.bases c.in-Some-2.form) ∷ drop 2 c.args.self.now.core.now.operands) c.args.self.now.core)
done c =
    two_set c.self.inside.code.now c.self.inside.bases c.self.inside.keeps c.self.inside.at c.self.inside.environment.now c.self.inside.environment.kept c.args.self.now c.self.invariant c.self.view_is c.put_for_two.new.environment.now c.put_for_two.new.environment.kept
    c.in_ok-operand.operand (Holds (held_value c.self.inside.bases c.in-Some-2.form)) (value_as c.self.inside.bases c.in-Some.upper) (value_as c.self.inside.bases c.in-Some-held_below.lower) (drop 2 c.args.self.now.core.now.operands)
    (both_held c.self.inside.code.now c.self.inside.bases c.self.inside.at c.self.inside.environment.now c.self.inside.environment.kept c.args.self.now c.self.invariant.1 c.self.view_is c.in-Some-held_below.lower c.in-Some.upper c.in-Some.ensures c.in-Some-held_below.ensures)
    c.in_ok-put_for_two.ensures.now c.in_ok-put_for_two.ensures.kept c.in_ok-operand.ensures.alone tt c.in_ok-operand.ensures.over (c.in_ok-operand.ensures.stands c.self.inside.environment.now.members)

pub returns-clause-done : goal.returns-clause-done
returns-clause-done c =
    let bs = c.self.inside.bases in
    let gives : (left : ℕ) → op_of c.args.what (value_as bs c.in-Some-held_below.lower ∷ value_as bs c.in-Some.upper ∷ []) left ≡ Gives (held_value bs c.in-Some-2.form) 0 = rw c.in-Some-2.is at c.in_ok-form.ensures.gives in (
      value_as bs c.in-Some-held_below.lower,
      value_as bs c.in-Some.upper,
      held_value bs c.in-Some-2.form,
      both_held c.self.inside.code.now c.self.inside.bases c.self.inside.at c.self.inside.environment.now c.self.inside.environment.kept c.args.self.now c.self.invariant.1 c.self.view_is c.in-Some-held_below.lower c.in-Some.upper c.in-Some.ensures c.in-Some-held_below.ensures,
      gives,
      (done c).stands,
    )

pub invariant_of-self-2 : goal.invariant_of-self-2
invariant_of-self-2 c = (done c).holds
