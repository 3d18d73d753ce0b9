-- The table of the operators: what an operator makes of its operands in their order, with these turns left. An operand
-- that is `om` is a fault except where the operator's row says otherwise.
use Rattle.std.specs.Prelude.{◌≡◌, ℕ, List, Option, Some, None}
use Rattle.setl_value.specs.Datum.{Datum, text}
use Rattle.setl_operators_table.specs.declared.Operator.{Operator}
use Rattle.setl_operators_table.specs.declared.Operator.TheVariants.{Negate, Abs, Even, Odd, Size, Not, Pow, Domain, Range, Arb, Str, IsInteger, IsString, IsBoolean, IsAtom, IsTuple, IsSet, IsMap, FoldAdd, FoldMultiply, FoldMax, FoldMin, FoldAnd, FoldOr, Add, Subtract, Multiply, Power, Divide, Modulo, Max, Min, With, Less, Lessf, Npow, Equal, NotEqual, Below, AtMost, Above, AtLeast, In, NotIn, Subset, Includes, Get, Images, Slice, Tail, SetOf, TupleOf, SetRange, TupleRange, SetStep, TupleStep, Put, PutImages}
use Rattle.setl_operators_table.specs.Outcome.{Outcome, value, all_values, unary, binary, ternary}
use Rattle.setl_operators_table.specs.Numbers.{negate, absolute, is_even, is_odd, raise, divide, greater, lesser, plus, minus, times, modulo}
use Rattle.setl_operators_table.specs.Truths.{negation, both, either, is_below, is_at_most, is_in, subset, opposite, equality, kind_test, is_integer_datum, is_string_datum, is_boolean_datum, is_atom_datum, is_tuple_datum, is_set_datum, is_map_datum}
use Rattle.setl_operators_table.specs.Collections.{size, least_member, all_subsets, some_subsets, with_datum, less_datum, enumerate_set, enumerate_tuple, domain, range, lessf_datum}
use Rattle.setl_operators_table.specs.Selections.{get, images_of, slice, tail}
use Rattle.setl_operators_table.specs.RangeRows.{as_set, as_tuple, range_of_integers, stepped_integers}
use Rattle.setl_operators_table.specs.Puts.{put, put_set}
use Rattle.setl_operators_table.specs.Folds.{folded}
use Rattle.setl_text.specs.Texts.{whole_text}

abbrev pub op_of : Operator → List (Option Datum) → ℕ → Outcome
op_of Negate vs left = unary negate (all_values vs)
op_of Abs vs left = unary absolute (all_values vs)
op_of Even vs left = unary is_even (all_values vs)
op_of Odd vs left = unary is_odd (all_values vs)
op_of Size vs left = unary size (all_values vs)
op_of Not vs left = unary negation (all_values vs)
op_of Pow vs left = unary (all_subsets left) (all_values vs)
op_of Domain vs left = unary domain (all_values vs)
op_of Range vs left = unary range (all_values vs)
op_of Arb vs left = unary least_member (all_values vs)
op_of Str vs left = unary (λ d. value (text (whole_text d))) (all_values vs)
op_of IsInteger vs left = kind_test is_integer_datum vs
op_of IsString vs left = kind_test is_string_datum vs
op_of IsBoolean vs left = kind_test is_boolean_datum vs
op_of IsAtom vs left = kind_test is_atom_datum vs
op_of IsTuple vs left = kind_test is_tuple_datum vs
op_of IsSet vs left = kind_test is_set_datum vs
op_of IsMap vs left = kind_test is_map_datum vs
op_of FoldAdd vs left = folded (λ now. plus) vs left
op_of FoldMultiply vs left = folded times vs left
op_of FoldMax vs left = folded (λ now. greater) vs left
op_of FoldMin vs left = folded (λ now. lesser) vs left
op_of FoldAnd vs left = folded (λ now. both) vs left
op_of FoldOr vs left = folded (λ now. either) vs left
op_of Add vs left = binary plus (all_values vs)
op_of Subtract vs left = binary minus (all_values vs)
op_of Multiply vs left = binary (times left) (all_values vs)
op_of Power vs left = binary raise (all_values vs)
op_of Divide vs left = binary divide (all_values vs)
op_of Modulo vs left = binary modulo (all_values vs)
op_of Max vs left = binary greater (all_values vs)
op_of Min vs left = binary lesser (all_values vs)
op_of With vs left = binary with_datum (all_values vs)
op_of Less vs left = binary less_datum (all_values vs)
op_of Lessf vs left = binary lessf_datum (all_values vs)
op_of Npow vs left = binary (some_subsets left) (all_values vs)
op_of Equal vs left = equality vs
op_of NotEqual vs left = opposite (equality vs)
op_of Below vs left = binary is_below (all_values vs)
op_of AtMost vs left = binary is_at_most (all_values vs)
op_of Above vs left = binary (λ a b. is_below b a) (all_values vs)
op_of AtLeast vs left = binary (λ a b. is_at_most b a) (all_values vs)
op_of In vs left = binary is_in (all_values vs)
op_of NotIn vs left = opposite (binary is_in (all_values vs))
op_of Subset vs left = binary subset (all_values vs)
op_of Includes vs left = binary (λ a b. subset b a) (all_values vs)
op_of Get vs left = binary get (all_values vs)
op_of Images vs left = binary images_of (all_values vs)
op_of Slice vs left = ternary slice (all_values vs)
op_of Tail vs left = binary tail (all_values vs)
op_of SetOf vs left = enumerate_set (all_values vs)
op_of TupleOf vs left = enumerate_tuple vs
op_of SetRange vs left = binary (range_of_integers as_set left) (all_values vs)
op_of TupleRange vs left = binary (range_of_integers as_tuple left) (all_values vs)
op_of SetStep vs left = ternary (stepped_integers as_set left) (all_values vs)
op_of TupleStep vs left = ternary (stepped_integers as_tuple left) (all_values vs)
op_of Put vs left = put left vs
op_of PutImages vs left = ternary put_set (all_values vs)

-- how many operands an operator has; an enumeration has any number
abbrev pub operand_count : Operator → Option ℕ
operand_count Negate = Some 1
operand_count Abs = Some 1
operand_count Even = Some 1
operand_count Odd = Some 1
operand_count Size = Some 1
operand_count Not = Some 1
operand_count Pow = Some 1
operand_count Domain = Some 1
operand_count Range = Some 1
operand_count Arb = Some 1
operand_count Str = Some 1
operand_count IsInteger = Some 1
operand_count IsString = Some 1
operand_count IsBoolean = Some 1
operand_count IsAtom = Some 1
operand_count IsTuple = Some 1
operand_count IsSet = Some 1
operand_count IsMap = Some 1
operand_count FoldAdd = Some 1
operand_count FoldMultiply = Some 1
operand_count FoldMax = Some 1
operand_count FoldMin = Some 1
operand_count FoldAnd = Some 1
operand_count FoldOr = Some 1
operand_count Slice = Some 3
operand_count SetOf = None
operand_count TupleOf = None
operand_count SetStep = Some 3
operand_count TupleStep = Some 3
operand_count Put = Some 3
operand_count PutImages = Some 3
operand_count what = Some 2

-- an operator has this many operands
abbrev pub IsCount : Option ℕ → ℕ → Type 0
IsCount None n = Unit {0}
IsCount (Some m) n = n ≡ m

abbrev pub TakesOperands : Operator → ℕ → Type 0
TakesOperands what n = IsCount (operand_count what) n
