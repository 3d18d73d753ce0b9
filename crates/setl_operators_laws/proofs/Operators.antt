-- Each operator gives values of values.
use Rattle.std.specs.Prelude.{ℕ, List, [], ◌∷◌, Option, Some, None}
use Rattle.std.specs.List.{AllByRecursion}
use Rattle.std.proofs.Common.{subst}
use Rattle.setl_value.specs.Datum.{Datum, text}
use Rattle.setl_value.specs.WellFormed.{IsValue}
use Rattle.setl_set.specs.Laws.{Inserts, Gathers}
use Rattle.setl_text.specs.Texts.{whole_text}
use Rattle.setl_operators_table.specs.declared.Operator.{Operator}
use Rattle.setl_operators_table.specs.declared.Operator.TheVariants.{Negate, Abs, Even, Odd, Size, Not, Pow, Domain, Range, Arb, Str, IsInteger, IsString, IsBoolean, IsAtom, IsTuple, IsSet, IsMap, FoldAdd, FoldMultiply, FoldMax, FoldMin, FoldAnd, FoldOr, Add, Subtract, Multiply, Power, Divide, Modulo, Max, Min, With, Less, Lessf, Npow, Equal, NotEqual, Below, AtMost, Above, AtLeast, In, NotIn, Subset, Includes, Get, Images, Slice, Tail, SetOf, TupleOf, SetRange, TupleRange, SetStep, TupleStep, Put, PutImages}
use Rattle.setl_operators_table.specs.Collections.{size, least_member, all_subsets, some_subsets, with_datum, less_datum, domain, range, lessf_datum}
use Rattle.setl_operators_table.specs.Numbers.{negate, absolute, is_even, is_odd, raise, divide, greater, lesser, plus, minus, times, modulo}
use Rattle.setl_operators_table.specs.Operators.{op_of}
use Rattle.setl_operators_table.specs.Outcome.{Outcome, value, one_more, all_values, unary, binary, ternary}
use Rattle.setl_operators_table.specs.Puts.{put_set}
use Rattle.setl_operators_table.specs.RangeRows.{as_set, as_tuple, range_of_integers, stepped_integers}
use Rattle.setl_operators_table.specs.Selections.{get, images_of, slice, tail}
use Rattle.setl_operators_table.specs.Truths.{negation, both, either, is_below, is_at_most, is_in, subset, equality, is_integer_datum, is_string_datum, is_boolean_datum, is_atom_datum, is_tuple_datum, is_set_datum, is_map_datum}
use Rattle.setl_operators_laws.specs.ValueLaws.{IsValueOrOm, CountFits, OperatorsGiveValues}
use Rattle.setl_operators_laws.proofs.Folds.{folded_gives}
use Rattle.setl_operators_laws.proofs.Numbers.{negate_gives, absolute_gives, even_gives, odd_gives, raise_gives, divide_gives, greater_gives, lesser_gives, plus_gives, minus_gives, times_gives, modulo_gives}
use Rattle.setl_operators_laws.specs.Outcomes.{GivesValue, text_value, operands, unary_gives, binary_gives, ternary_gives}
use Rattle.setl_operators_laws.specs.Ranges.{set_of_numbers, tuple_of_numbers, range_gives, step_gives}
use Rattle.setl_operators_laws.specs.Texts.{whole_text_is_plain}
use Rattle.setl_operators_laws.proofs.Truths.{negation_gives, both_gives, either_gives, below_gives, at_most_gives, in_gives, subset_gives, opposite_gives, equality_gives, kind_gives}
use Rattle.setl_operators_laws.proofs.Wholes.{size_gives, least_gives, pow_gives, npow_gives, with_gives, less_gives, set_of_gives, tuple_of_gives, domain_gives, range_of_gives, lessf_gives, get_gives, images_gives, slice_gives, tail_gives, put_gives, put_set_gives}

-- operands that are values or `om`
abbrev AreOperands : List (Option Datum) → Type 0
AreOperands vs = AllByRecursion IsValueOrOm vs

one : (f : Datum → Outcome) (vs : List (Option Datum)) → AreOperands vs → ((a : Datum) → IsValue a → GivesValue (f a)) → GivesValue (unary f (all_values vs))
one f vs a h = unary_gives f (all_values vs) h (operands vs a)

two : (f : Datum → Datum → Outcome) (vs : List (Option Datum)) → AreOperands vs → ((a b : Datum) → IsValue a → IsValue b → GivesValue (f a b)) → GivesValue (binary f (all_values vs))
two f vs a h = binary_gives f (all_values vs) h (operands vs a)

three : (f : Datum → Datum → Datum → Outcome) (vs : List (Option Datum)) → AreOperands vs → ((a b c : Datum) → IsValue a → IsValue b → IsValue c → GivesValue (f a b c)) → GivesValue (ternary f (all_values vs))
three f vs a h = ternary_gives f (all_values vs) h (operands vs a)

-- two operands or more
several : (f : Datum → Outcome) (a b : Datum) (o : Option (List Datum)) → GivesValue (unary f (one_more a (one_more b o)))
several f a b None = tt
several f a b (Some ds) = tt

counted : (vs : List (Option Datum)) → CountFits Size vs → GivesValue (unary size (all_values vs))
counted [] c = tt
counted (None ∷ vs) c = tt
counted (Some d ∷ []) c = size_gives d c
counted (Some d ∷ None ∷ vs) c = tt
counted (Some d ∷ Some e ∷ vs) c = several size d e (all_values vs)

gives : Inserts → Gathers → (o : Operator) (vs : List (Option Datum)) (left : ℕ) → AreOperands vs → CountFits o vs → GivesValue (op_of o vs left)
gives i g Negate vs left a c = one negate vs a negate_gives
gives i g Abs vs left a c = one absolute vs a absolute_gives
gives i g Even vs left a c = one is_even vs a even_gives
gives i g Odd vs left a c = one is_odd vs a odd_gives
gives i g Size vs left a c = counted vs c
gives i g Not vs left a c = one negation vs a negation_gives
gives i g Pow vs left a c = one (all_subsets left) vs a (pow_gives g left)
gives i g Domain vs left a c = one domain vs a (domain_gives g)
gives i g Range vs left a c = one range vs a (range_of_gives g)
gives i g Arb vs left a c = one least_member vs a least_gives
gives i g Str vs left a c = one (λ d. value (text (whole_text d))) vs a (λ d h. text_value (whole_text d) (whole_text_is_plain d h))
gives i g IsInteger vs left a c = kind_gives is_integer_datum vs
gives i g IsString vs left a c = kind_gives is_string_datum vs
gives i g IsBoolean vs left a c = kind_gives is_boolean_datum vs
gives i g IsAtom vs left a c = kind_gives is_atom_datum vs
gives i g IsTuple vs left a c = kind_gives is_tuple_datum vs
gives i g IsSet vs left a c = kind_gives is_set_datum vs
gives i g IsMap vs left a c = kind_gives is_map_datum vs
gives i g FoldAdd vs left a c = folded_gives (λ now. plus) (λ now. plus_gives g) vs left a
gives i g FoldMultiply vs left a c = folded_gives times times_gives vs left a
gives i g FoldMax vs left a c = folded_gives (λ now. greater) (λ now. greater_gives) vs left a
gives i g FoldMin vs left a c = folded_gives (λ now. lesser) (λ now. lesser_gives) vs left a
gives i g FoldAnd vs left a c = folded_gives (λ now. both) (λ now. both_gives) vs left a
gives i g FoldOr vs left a c = folded_gives (λ now. either) (λ now. either_gives) vs left a
gives i g Add vs left a c = two plus vs a (plus_gives g)
gives i g Subtract vs left a c = two minus vs a minus_gives
gives i g Multiply vs left a c = two (times left) vs a (times_gives left)
gives i g Power vs left a c = two raise vs a raise_gives
gives i g Divide vs left a c = two divide vs a divide_gives
gives i g Modulo vs left a c = two modulo vs a (modulo_gives g)
gives i g Max vs left a c = two greater vs a greater_gives
gives i g Min vs left a c = two lesser vs a lesser_gives
gives i g With vs left a c = two with_datum vs a (with_gives i)
gives i g Less vs left a c = two less_datum vs a less_gives
gives i g Lessf vs left a c = two lessf_datum vs a lessf_gives
gives i g Npow vs left a c = two (some_subsets left) vs a (npow_gives g left)
gives i g Equal vs left a c = equality_gives vs
gives i g NotEqual vs left a c = opposite_gives (equality vs) (equality_gives vs)
gives i g Below vs left a c = two is_below vs a below_gives
gives i g AtMost vs left a c = two is_at_most vs a at_most_gives
gives i g Above vs left a c = two (λ x y. is_below y x) vs a (λ x y h k. below_gives y x k h)
gives i g AtLeast vs left a c = two (λ x y. is_at_most y x) vs a (λ x y h k. at_most_gives y x k h)
gives i g In vs left a c = two is_in vs a in_gives
gives i g NotIn vs left a c = opposite_gives (binary is_in (all_values vs)) (two is_in vs a in_gives)
gives i g Subset vs left a c = two subset vs a subset_gives
gives i g Includes vs left a c = two (λ x y. subset y x) vs a (λ x y h k. subset_gives y x k h)
gives i g Get vs left a c = two get vs a get_gives
gives i g Images vs left a c = two images_of vs a images_gives
gives i g Slice vs left a c = three slice vs a (λ d x y h k l. slice_gives d x y h)
gives i g Tail vs left a c = two tail vs a tail_gives
gives i g SetOf vs left a c = set_of_gives g (all_values vs) (operands vs a)
gives i g TupleOf vs left a c = tuple_of_gives vs a
gives i g SetRange vs left a c = two (range_of_integers as_set left) vs a (range_gives as_set (set_of_numbers g) left)
gives i g TupleRange vs left a c = two (range_of_integers as_tuple left) vs a (range_gives as_tuple tuple_of_numbers left)
gives i g SetStep vs left a c = three (stepped_integers as_set left) vs a (step_gives as_set (set_of_numbers g) left)
gives i g TupleStep vs left a c = three (stepped_integers as_tuple left) vs a (step_gives as_tuple tuple_of_numbers left)
gives i g Put vs left a c = put_gives i left vs a
gives i g PutImages vs left a c = three put_set vs a (put_set_gives g)

pub operators_give_values : Inserts → Gathers → OperatorsGiveValues
operators_give_values i g o vs left n v a c e = subst GivesValue e (gives i g o vs left a c)
