-- How many operands an operator has that takes few.
use Rattle.std.proofs.Common.{◌≡◌, ℕ, Option, Some, None, ap, arith}
use Rattle.std.specs.Bool.{IsTrue}
use Rattle.std.proofs.lemmas.Bool.Decides.{nat_tests}
use Rattle.setl_operators_table.specs.declared.Operator.{Operator}
use Rattle.setl_operators_table.specs.Operators.{operand_count, IsCount, TakesOperands}
use Rattle.setl_operators.specs.Readers.{takes_few, is_few}

one_of : (o : Option ℕ) (n : ℕ) → IsTrue (is_few o) → IsCount o n → n ≡ 1 → o ≡ Some 1
one_of None n f c e = absurd (cc)
one_of (Some m) n f c e = ap Some (omega arith)

pub one_operand : (what : Operator) (n : ℕ) → IsTrue (takes_few what) → TakesOperands what n → n ≡ 1 → operand_count what ≡ Some 1
one_operand what n r c e = one_of (operand_count what) n r c e

two_by : (m n : ℕ) → IsTrue (is_few (Some m)) → n ≡ m → (n ≡ 1 → ⊥) → n ≡ 2
two_by m n f c e = grind (arith, nat_tests)

two_of : (o : Option ℕ) (n : ℕ) → IsTrue (is_few o) → IsCount o n → (n ≡ 1 → ⊥) → (n ≡ 2) × (o ≡ Some 2)
two_of None n f c e = absurd (cc)
two_of (Some m) n f c e = let two : n ≡ 2 = two_by m n f c e in (two, ap Some (omega arith))

pub two_operands : (what : Operator) (n : ℕ) → IsTrue (takes_few what) → TakesOperands what n → (n ≡ 1 → ⊥) → (n ≡ 2) × (operand_count what ≡ Some 2)
two_operands what n r c e = two_of (operand_count what) n r c e
