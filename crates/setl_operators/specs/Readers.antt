-- Which operators take one or two operands, and which only read two.
use Rattle.std.specs.Prelude.{ℕ, ◌==◌, ◌||◌, Bool, false, Option, Some, None}
use Rattle.setl_operators_table.specs.declared.Operator.{Operator}
use Rattle.setl_operators_table.specs.declared.Operator.TheVariants.{With, Less, Lessf, Equal, NotEqual}
use Rattle.setl_operators_table.specs.Operators.{operand_count}

abbrev pub is_few : Option ℕ → Bool
is_few None = false
is_few (Some n) = (n == 1) || (n == 2)

abbrev is_two : Option ℕ → Bool
is_two None = false
is_two (Some n) = n == 2

-- on one or two operands
abbrev pub takes_few : Operator → Bool
takes_few what = is_few (operand_count what)

-- on two values, neither of which may be `om` or is changed in place
abbrev pub reads_two : Operator → Bool
reads_two With = false
reads_two Less = false
reads_two Lessf = false
reads_two Equal = false
reads_two NotEqual = false
reads_two what = is_two (operand_count what)
