-- The table of flows holds for the table of operators.
use Rattle.std.proofs.Common.{ℕ, Bool, true, false, List, [], ◌∷◌, Option, Some, None}
use Rattle.std.specs.Prelude.{nat_le, if◌then◌else◌}
use Rattle.setl_value.specs.Datum.{Datum, bool, int, text, atom, tuple, set, tuple_of, depth}
use Rattle.setl_value.specs.WellFormed.{trim}
use Rattle.setl_scalar.specs.Integers.{neg_of, abs_of, power_of, div_of}
use Rattle.setl_text.specs.Texts.{whole_text}
use Rattle.setl_operators_table.specs.Outcome.{Outcome, Gives, Fails, Overspends, DeepFault, value, all_values, binary}
use Rattle.setl_operators_table.specs.Operators.{op_of}
use Rattle.setl_operators_table.specs.declared.Operator.{Operator}
use Rattle.setl_operators_table.specs.declared.Operator.TheVariants.{Negate, Abs, Even, Odd, Size, Not, Pow, Domain, Range, Arb, Str, IsInteger, IsString, IsBoolean, IsAtom, IsTuple, IsSet, IsMap, FoldAdd, FoldMultiply, FoldMax, FoldMin, FoldAnd, FoldOr, Add, Subtract, Multiply, Power, Divide, Modulo, Max, Min, With, Less, Lessf, Npow, Equal, NotEqual, Below, AtMost, Above, AtLeast, In, NotIn, Subset, Includes, Get, Images, Slice, Tail, SetOf, TupleOf, SetRange, TupleRange, SetStep, TupleStep, Put, PutImages}
use Rattle.setl_operators_table.specs.Numbers.{negate, absolute, is_even, is_odd, raise, divide, greater, lesser, plus, minus, times, modulo}
use Rattle.setl_operators_table.specs.Truths.{both, either, negation, is_below, is_at_most, is_in, subset, opposite, equality, kind_test, is_integer_datum, is_string_datum, is_boolean_datum, is_atom_datum, is_tuple_datum, is_set_datum, is_map_datum}
use Rattle.setl_operators_table.specs.Collections.{all_subsets, some_subsets, size, least_member, with_datum, less_datum, domain, range, lessf_datum, enumerate_tuple}
use Rattle.setl_operators_table.specs.Selections.{get, images_of, slice, tail}
use Rattle.setl_operators_table.specs.RangeRows.{as_set, as_tuple, range_of_integers, stepped_integers}
use Rattle.setl_advise_flows.specs.Flow.{Whole, Truth, Flow, Scalar, Set, Tuple, tuple_flow}
use Rattle.setl_advise_flows.specs.Has.{Has}
use Rattle.setl_advise_flows.specs.Operators.{Shape, Plain, Constant, Written, flows, HasShape, HaveShapes, Have, OutcomeShape, op_flow, tuple_shape, all_joined, OperatorsIn}
use Rattle.setl_advise_flows.proofs.Joining.{cap_covers}
use Rattle.setl_advise_flows.proofs.Lists.{each_trim, tuple_has}
use Rattle.setl_advise_flows.proofs.Operators.{In as Within, one_by, two_by, deep_in, whole_in, plus_in, modulo_in, minus_in, times_in, with_in, less_in, lessf_in}
use Rattle.setl_advise_flows.proofs.Putting.{put_in}
use Rattle.setl_advise_flows.proofs.Further.{three_by, slice_in, tail_in, step_in, pow_in, npow_in, put_set_in, fold_in, plus_stays, times_stays, greater_stays, lesser_stays, both_stays, either_stays}
use Rattle.setl_operators_table.specs.Folds.{fold_datum}
use Rattle.setl_operators_table.specs.Puts.{put_set}
use Rattle.setl_advise_flows.proofs.Selecting.{get_in, images_of_in, domain_is_in, range_is_in, arb_in, have_flows, joined_parts, set_enumerated, set_of_ints, tuple_of_ints, range_in, below_in, at_most_in, size_in}

negate_in : (d : Datum) → Within (Scalar Whole) (negate d)
negate_in (bool x) = tt
negate_in (int x) = whole_in (neg_of x)
negate_in (text x) = tt
negate_in (atom x) = tt
negate_in (tuple x) = tt
negate_in (set x) = tt

absolute_in : (d : Datum) → Within (Scalar Whole) (absolute d)
absolute_in (bool x) = tt
absolute_in (int x) = whole_in (abs_of x)
absolute_in (text x) = tt
absolute_in (atom x) = tt
absolute_in (tuple x) = tt
absolute_in (set x) = tt

raise_in : (d e : Datum) → Within (Scalar Whole) (raise d e)
raise_in (bool x) (bool y) = tt
raise_in (bool x) (int y) = tt
raise_in (bool x) (text y) = tt
raise_in (bool x) (atom y) = tt
raise_in (bool x) (tuple y) = tt
raise_in (bool x) (set y) = tt
raise_in (int x) (bool y) = tt
raise_in (int x) (int y) = whole_in (power_of x y)
raise_in (int x) (text y) = tt
raise_in (int x) (atom y) = tt
raise_in (int x) (tuple y) = tt
raise_in (int x) (set y) = tt
raise_in (text x) (bool y) = tt
raise_in (text x) (int y) = tt
raise_in (text x) (text y) = tt
raise_in (text x) (atom y) = tt
raise_in (text x) (tuple y) = tt
raise_in (text x) (set y) = tt
raise_in (atom x) (bool y) = tt
raise_in (atom x) (int y) = tt
raise_in (atom x) (text y) = tt
raise_in (atom x) (atom y) = tt
raise_in (atom x) (tuple y) = tt
raise_in (atom x) (set y) = tt
raise_in (tuple x) (bool y) = tt
raise_in (tuple x) (int y) = tt
raise_in (tuple x) (text y) = tt
raise_in (tuple x) (atom y) = tt
raise_in (tuple x) (tuple y) = tt
raise_in (tuple x) (set y) = tt
raise_in (set x) (bool y) = tt
raise_in (set x) (int y) = tt
raise_in (set x) (text y) = tt
raise_in (set x) (atom y) = tt
raise_in (set x) (tuple y) = tt
raise_in (set x) (set y) = tt

divide_in : (d e : Datum) → Within (Scalar Whole) (divide d e)
divide_in (bool x) (bool y) = tt
divide_in (bool x) (int y) = tt
divide_in (bool x) (text y) = tt
divide_in (bool x) (atom y) = tt
divide_in (bool x) (tuple y) = tt
divide_in (bool x) (set y) = tt
divide_in (int x) (bool y) = tt
divide_in (int x) (int y) = whole_in (div_of x y)
divide_in (int x) (text y) = tt
divide_in (int x) (atom y) = tt
divide_in (int x) (tuple y) = tt
divide_in (int x) (set y) = tt
divide_in (text x) (bool y) = tt
divide_in (text x) (int y) = tt
divide_in (text x) (text y) = tt
divide_in (text x) (atom y) = tt
divide_in (text x) (tuple y) = tt
divide_in (text x) (set y) = tt
divide_in (atom x) (bool y) = tt
divide_in (atom x) (int y) = tt
divide_in (atom x) (text y) = tt
divide_in (atom x) (atom y) = tt
divide_in (atom x) (tuple y) = tt
divide_in (atom x) (set y) = tt
divide_in (tuple x) (bool y) = tt
divide_in (tuple x) (int y) = tt
divide_in (tuple x) (text y) = tt
divide_in (tuple x) (atom y) = tt
divide_in (tuple x) (tuple y) = tt
divide_in (tuple x) (set y) = tt
divide_in (set x) (bool y) = tt
divide_in (set x) (int y) = tt
divide_in (set x) (text y) = tt
divide_in (set x) (atom y) = tt
divide_in (set x) (tuple y) = tt
divide_in (set x) (set y) = tt

greater_in : (d e : Datum) → Within (Scalar Whole) (greater d e)
greater_in (bool x) (bool y) = tt
greater_in (bool x) (int y) = tt
greater_in (bool x) (text y) = tt
greater_in (bool x) (atom y) = tt
greater_in (bool x) (tuple y) = tt
greater_in (bool x) (set y) = tt
greater_in (int x) (bool y) = tt
greater_in (int x) (int y) = tt
greater_in (int x) (text y) = tt
greater_in (int x) (atom y) = tt
greater_in (int x) (tuple y) = tt
greater_in (int x) (set y) = tt
greater_in (text x) (bool y) = tt
greater_in (text x) (int y) = tt
greater_in (text x) (text y) = tt
greater_in (text x) (atom y) = tt
greater_in (text x) (tuple y) = tt
greater_in (text x) (set y) = tt
greater_in (atom x) (bool y) = tt
greater_in (atom x) (int y) = tt
greater_in (atom x) (text y) = tt
greater_in (atom x) (atom y) = tt
greater_in (atom x) (tuple y) = tt
greater_in (atom x) (set y) = tt
greater_in (tuple x) (bool y) = tt
greater_in (tuple x) (int y) = tt
greater_in (tuple x) (text y) = tt
greater_in (tuple x) (atom y) = tt
greater_in (tuple x) (tuple y) = tt
greater_in (tuple x) (set y) = tt
greater_in (set x) (bool y) = tt
greater_in (set x) (int y) = tt
greater_in (set x) (text y) = tt
greater_in (set x) (atom y) = tt
greater_in (set x) (tuple y) = tt
greater_in (set x) (set y) = tt

lesser_in : (d e : Datum) → Within (Scalar Whole) (lesser d e)
lesser_in (bool x) (bool y) = tt
lesser_in (bool x) (int y) = tt
lesser_in (bool x) (text y) = tt
lesser_in (bool x) (atom y) = tt
lesser_in (bool x) (tuple y) = tt
lesser_in (bool x) (set y) = tt
lesser_in (int x) (bool y) = tt
lesser_in (int x) (int y) = tt
lesser_in (int x) (text y) = tt
lesser_in (int x) (atom y) = tt
lesser_in (int x) (tuple y) = tt
lesser_in (int x) (set y) = tt
lesser_in (text x) (bool y) = tt
lesser_in (text x) (int y) = tt
lesser_in (text x) (text y) = tt
lesser_in (text x) (atom y) = tt
lesser_in (text x) (tuple y) = tt
lesser_in (text x) (set y) = tt
lesser_in (atom x) (bool y) = tt
lesser_in (atom x) (int y) = tt
lesser_in (atom x) (text y) = tt
lesser_in (atom x) (atom y) = tt
lesser_in (atom x) (tuple y) = tt
lesser_in (atom x) (set y) = tt
lesser_in (tuple x) (bool y) = tt
lesser_in (tuple x) (int y) = tt
lesser_in (tuple x) (text y) = tt
lesser_in (tuple x) (atom y) = tt
lesser_in (tuple x) (tuple y) = tt
lesser_in (tuple x) (set y) = tt
lesser_in (set x) (bool y) = tt
lesser_in (set x) (int y) = tt
lesser_in (set x) (text y) = tt
lesser_in (set x) (atom y) = tt
lesser_in (set x) (tuple y) = tt
lesser_in (set x) (set y) = tt

is_even_in : (d : Datum) → Within (Scalar Truth) (is_even d)
is_even_in (bool x) = tt
is_even_in (int x) = tt
is_even_in (text x) = tt
is_even_in (atom x) = tt
is_even_in (tuple x) = tt
is_even_in (set x) = tt

is_odd_in : (d : Datum) → Within (Scalar Truth) (is_odd d)
is_odd_in (bool x) = tt
is_odd_in (int x) = tt
is_odd_in (text x) = tt
is_odd_in (atom x) = tt
is_odd_in (tuple x) = tt
is_odd_in (set x) = tt

negation_in : (d : Datum) → Within (Scalar Truth) (negation d)
negation_in (bool x) = tt
negation_in (int x) = tt
negation_in (text x) = tt
negation_in (atom x) = tt
negation_in (tuple x) = tt
negation_in (set x) = tt

is_in_in : (d e : Datum) → Within (Scalar Truth) (is_in d e)
is_in_in (bool x) (bool y) = tt
is_in_in (bool x) (int y) = tt
is_in_in (bool x) (text y) = tt
is_in_in (bool x) (atom y) = tt
is_in_in (bool x) (tuple y) = tt
is_in_in (bool x) (set y) = tt
is_in_in (int x) (bool y) = tt
is_in_in (int x) (int y) = tt
is_in_in (int x) (text y) = tt
is_in_in (int x) (atom y) = tt
is_in_in (int x) (tuple y) = tt
is_in_in (int x) (set y) = tt
is_in_in (text x) (bool y) = tt
is_in_in (text x) (int y) = tt
is_in_in (text x) (text y) = tt
is_in_in (text x) (atom y) = tt
is_in_in (text x) (tuple y) = tt
is_in_in (text x) (set y) = tt
is_in_in (atom x) (bool y) = tt
is_in_in (atom x) (int y) = tt
is_in_in (atom x) (text y) = tt
is_in_in (atom x) (atom y) = tt
is_in_in (atom x) (tuple y) = tt
is_in_in (atom x) (set y) = tt
is_in_in (tuple x) (bool y) = tt
is_in_in (tuple x) (int y) = tt
is_in_in (tuple x) (text y) = tt
is_in_in (tuple x) (atom y) = tt
is_in_in (tuple x) (tuple y) = tt
is_in_in (tuple x) (set y) = tt
is_in_in (set x) (bool y) = tt
is_in_in (set x) (int y) = tt
is_in_in (set x) (text y) = tt
is_in_in (set x) (atom y) = tt
is_in_in (set x) (tuple y) = tt
is_in_in (set x) (set y) = tt

subset_in : (d e : Datum) → Within (Scalar Truth) (subset d e)
subset_in (bool x) (bool y) = tt
subset_in (bool x) (int y) = tt
subset_in (bool x) (text y) = tt
subset_in (bool x) (atom y) = tt
subset_in (bool x) (tuple y) = tt
subset_in (bool x) (set y) = tt
subset_in (int x) (bool y) = tt
subset_in (int x) (int y) = tt
subset_in (int x) (text y) = tt
subset_in (int x) (atom y) = tt
subset_in (int x) (tuple y) = tt
subset_in (int x) (set y) = tt
subset_in (text x) (bool y) = tt
subset_in (text x) (int y) = tt
subset_in (text x) (text y) = tt
subset_in (text x) (atom y) = tt
subset_in (text x) (tuple y) = tt
subset_in (text x) (set y) = tt
subset_in (atom x) (bool y) = tt
subset_in (atom x) (int y) = tt
subset_in (atom x) (text y) = tt
subset_in (atom x) (atom y) = tt
subset_in (atom x) (tuple y) = tt
subset_in (atom x) (set y) = tt
subset_in (tuple x) (bool y) = tt
subset_in (tuple x) (int y) = tt
subset_in (tuple x) (text y) = tt
subset_in (tuple x) (atom y) = tt
subset_in (tuple x) (tuple y) = tt
subset_in (tuple x) (set y) = tt
subset_in (set x) (bool y) = tt
subset_in (set x) (int y) = tt
subset_in (set x) (text y) = tt
subset_in (set x) (atom y) = tt
subset_in (set x) (tuple y) = tt
subset_in (set x) (set y) = tt

opposite_in : (o : Outcome) → Within (Scalar Truth) o → Within (Scalar Truth) (opposite o)
opposite_in (Fails f) h = tt
opposite_in Overspends h = tt
opposite_in (Gives None n) h = h
opposite_in (Gives (Some (bool b)) n) h = tt
opposite_in (Gives (Some (int b)) n) h = h
opposite_in (Gives (Some (text b)) n) h = h
opposite_in (Gives (Some (atom b)) n) h = h
opposite_in (Gives (Some (tuple b)) n) h = h
opposite_in (Gives (Some (set b)) n) h = h

kind_in : (test : Datum → Bool) (vs : List (Option Datum)) → Within (Scalar Truth) (kind_test test vs)
kind_in test [] = tt
kind_in test (None ∷ []) = tt
kind_in test (Some d ∷ []) = tt
kind_in test (None ∷ v ∷ vs) = tt
kind_in test (Some d ∷ v ∷ vs) = tt

equality_in : (vs : List (Option Datum)) → Within (Scalar Truth) (equality vs)
equality_in [] = tt
equality_in (a ∷ []) = tt
equality_in (a ∷ b ∷ []) = tt
equality_in (a ∷ b ∷ c ∷ vs) = tt

-- ---- tuples that are written

enumerated : (ws : List Shape) (vs : List (Option Datum)) → HaveShapes ws vs → Within (tuple_flow (all_joined (flows ws))) (enumerate_tuple vs)
enumerated ws vs h =
    let j = all_joined (flows ws) in
    deep_in (tuple_flow j) (tuple_of (trim vs)) (cap_covers 3 (Tuple j) (tuple_of (trim vs)) (tuple_has (Has j) (trim vs) (each_trim (Has j) vs (joined_parts (flows ws) vs (have_flows ws vs h)))))

shaped : (w : Shape) (b : Bool) (d : Datum) → HasShape w (Some d) → OutcomeShape w (if b then value d else Fails DeepFault)
shaped w true d h = h
shaped w false d h = tt

tuple_enumerated : (ws : List Shape) (vs : List (Option Datum)) → HaveShapes ws vs → OutcomeShape (tuple_shape ws) (enumerate_tuple vs)
tuple_enumerated (Constant f ∷ Constant g ∷ []) (Some d ∷ Some e ∷ []) h = shaped (Written f g) (nat_le (depth (tuple_of (Some d ∷ Some e ∷ []))) 500) (tuple_of (Some d ∷ Some e ∷ [])) (h.0, h.1.0)
tuple_enumerated (Constant f ∷ Constant g ∷ []) (None ∷ vs) h = absurd h.0
tuple_enumerated (Constant f ∷ Constant g ∷ []) (Some d ∷ None ∷ vs) h = absurd h.1.0
tuple_enumerated (Constant f ∷ Constant g ∷ []) [] h = absurd h
tuple_enumerated (Constant f ∷ Constant g ∷ []) (Some d ∷ []) h = absurd h.1
tuple_enumerated (Constant f ∷ Constant g ∷ []) (Some d ∷ Some e ∷ v ∷ vs) h = absurd h.1.1
tuple_enumerated [] vs h = enumerated [] vs h
tuple_enumerated (Plain f ∷ ws) vs h = enumerated (Plain f ∷ ws) vs h
tuple_enumerated (Written f g ∷ ws) vs h = enumerated (Written f g ∷ ws) vs h
tuple_enumerated (Constant f ∷ []) vs h = enumerated (Constant f ∷ []) vs h
tuple_enumerated (Constant f ∷ Plain g ∷ ws) vs h = enumerated (Constant f ∷ Plain g ∷ ws) vs h
tuple_enumerated (Constant f ∷ Written g k ∷ ws) vs h = enumerated (Constant f ∷ Written g k ∷ ws) vs h
tuple_enumerated (Constant f ∷ Constant g ∷ w ∷ ws) vs h = enumerated (Constant f ∷ Constant g ∷ w ∷ ws) vs h

-- the two enumerations go by the shapes of what is written
abbrev IsPlain : Operator → Type 0
IsPlain SetOf = ⊥
IsPlain TupleOf = ⊥
IsPlain o = Unit {0}

flows_in : (o : Operator) → IsPlain o → (fs : List Flow) (vs : List (Option Datum)) (left : ℕ) → Have fs vs → Within (op_flow o fs) (op_of o vs left)
flows_in Negate plain fs vs left h = one_by (op_flow Negate) negate (λ a d x. negate_in d) fs vs h
flows_in Abs plain fs vs left h = one_by (op_flow Abs) absolute (λ a d x. absolute_in d) fs vs h
flows_in Even plain fs vs left h = one_by (op_flow Even) is_even (λ a d x. is_even_in d) fs vs h
flows_in Odd plain fs vs left h = one_by (op_flow Odd) is_odd (λ a d x. is_odd_in d) fs vs h
flows_in Size plain fs vs left h = one_by (op_flow Size) size (λ a d x. size_in d) fs vs h
flows_in Not plain fs vs left h = one_by (op_flow Not) negation (λ a d x. negation_in d) fs vs h
flows_in Domain plain fs vs left h = one_by (op_flow Domain) domain (λ a d x. domain_is_in a d x) fs vs h
flows_in Range plain fs vs left h = one_by (op_flow Range) range (λ a d x. range_is_in a d x) fs vs h
flows_in Arb plain fs vs left h = one_by (op_flow Arb) least_member (λ a d x. arb_in a d x) fs vs h
flows_in Str plain fs vs left h = one_by (op_flow Str) (λ d. value (text (whole_text d))) (λ a d x. tt) fs vs h
flows_in Add plain fs vs left h = two_by (op_flow Add) plus (λ a b d e x y. plus_in a b d e x y) fs vs h
flows_in Subtract plain fs vs left h = two_by (op_flow Subtract) minus (λ a b d e x y. minus_in a d e x) fs vs h
flows_in Multiply plain fs vs left h = two_by (op_flow Multiply) (times left) (λ a b d e x y. times_in a b left d e x y) fs vs h
flows_in Power plain fs vs left h = two_by (op_flow Power) raise (λ a b d e x y. raise_in d e) fs vs h
flows_in Divide plain fs vs left h = two_by (op_flow Divide) divide (λ a b d e x y. divide_in d e) fs vs h
flows_in Modulo plain fs vs left h = two_by (op_flow Modulo) modulo (λ a b d e x y. modulo_in a b d e x y) fs vs h
flows_in Max plain fs vs left h = two_by (op_flow Max) greater (λ a b d e x y. greater_in d e) fs vs h
flows_in Min plain fs vs left h = two_by (op_flow Min) lesser (λ a b d e x y. lesser_in d e) fs vs h
flows_in With plain fs vs left h = two_by (op_flow With) with_datum (λ a b d e x y. with_in a b d e x y) fs vs h
flows_in Less plain fs vs left h = two_by (op_flow Less) less_datum (λ a b d e x y. less_in a d e x) fs vs h
flows_in Lessf plain fs vs left h = two_by (op_flow Lessf) lessf_datum (λ a b d e x y. lessf_in a d e x) fs vs h
flows_in Below plain fs vs left h = two_by (op_flow Below) is_below (λ a b d e x y. below_in d e) fs vs h
flows_in AtMost plain fs vs left h = two_by (op_flow AtMost) is_at_most (λ a b d e x y. at_most_in d e) fs vs h
flows_in Above plain fs vs left h = two_by (op_flow Above) (λ d e. is_below e d) (λ a b d e x y. below_in e d) fs vs h
flows_in AtLeast plain fs vs left h = two_by (op_flow AtLeast) (λ d e. is_at_most e d) (λ a b d e x y. at_most_in e d) fs vs h
flows_in In plain fs vs left h = two_by (op_flow In) is_in (λ a b d e x y. is_in_in d e) fs vs h
flows_in Subset plain fs vs left h = two_by (op_flow Subset) subset (λ a b d e x y. subset_in d e) fs vs h
flows_in Includes plain fs vs left h = two_by (op_flow Includes) (λ d e. subset e d) (λ a b d e x y. subset_in e d) fs vs h
flows_in Get plain fs vs left h = two_by (op_flow Get) get (λ a b d e x y. get_in a d e x) fs vs h
flows_in Images plain fs vs left h = two_by (op_flow Images) images_of (λ a b d e x y. images_of_in a d e x) fs vs h
flows_in SetRange plain fs vs left h = two_by (op_flow SetRange) (range_of_integers as_set left) (λ a b d e x y. range_in (Set (Scalar Whole)) as_set set_of_ints left d e) fs vs h
flows_in TupleRange plain fs vs left h = two_by (op_flow TupleRange) (range_of_integers as_tuple left) (λ a b d e x y. range_in (Tuple (Scalar Whole)) as_tuple tuple_of_ints left d e) fs vs h
flows_in IsInteger plain fs vs left h = kind_in is_integer_datum vs
flows_in IsString plain fs vs left h = kind_in is_string_datum vs
flows_in IsBoolean plain fs vs left h = kind_in is_boolean_datum vs
flows_in IsAtom plain fs vs left h = kind_in is_atom_datum vs
flows_in IsTuple plain fs vs left h = kind_in is_tuple_datum vs
flows_in IsSet plain fs vs left h = kind_in is_set_datum vs
flows_in IsMap plain fs vs left h = kind_in is_map_datum vs
flows_in Equal plain fs vs left h = equality_in vs
flows_in NotEqual plain fs vs left h = opposite_in (equality vs) (equality_in vs)
flows_in NotIn plain fs vs left h = opposite_in (binary is_in (all_values vs)) (two_by (op_flow In) is_in (λ a b d e x y. is_in_in d e) fs vs h)
flows_in Pow plain fs vs left h = one_by (op_flow Pow) (all_subsets left) (λ a d x. pow_in a left d x) fs vs h
flows_in Npow plain fs vs left h = two_by (op_flow Npow) (some_subsets left) (λ a b d e x y. npow_in b left d e y) fs vs h
flows_in FoldAdd plain fs vs left h = one_by (op_flow FoldAdd) (fold_datum (λ now. plus) left) (λ a d x. fold_in (λ now. plus) plus_stays left a d x) fs vs h
flows_in FoldMultiply plain fs vs left h = one_by (op_flow FoldMultiply) (fold_datum times left) (λ a d x. fold_in times times_stays left a d x) fs vs h
flows_in FoldMax plain fs vs left h = one_by (op_flow FoldMax) (fold_datum (λ now. greater) left) (λ a d x. fold_in (λ now. greater) greater_stays left a d x) fs vs h
flows_in FoldMin plain fs vs left h = one_by (op_flow FoldMin) (fold_datum (λ now. lesser) left) (λ a d x. fold_in (λ now. lesser) lesser_stays left a d x) fs vs h
flows_in FoldAnd plain fs vs left h = one_by (op_flow FoldAnd) (fold_datum (λ now. both) left) (λ a d x. fold_in (λ now. both) both_stays left a d x) fs vs h
flows_in FoldOr plain fs vs left h = one_by (op_flow FoldOr) (fold_datum (λ now. either) left) (λ a d x. fold_in (λ now. either) either_stays left a d x) fs vs h
flows_in Slice plain fs vs left h = three_by (op_flow Slice) slice (λ a b c d e f x y z. slice_in a d e f x) fs vs h
flows_in Tail plain fs vs left h = two_by (op_flow Tail) tail (λ a b d e x y. tail_in a d e x) fs vs h
flows_in SetStep plain fs vs left h = three_by (op_flow SetStep) (stepped_integers as_set left) (λ a b c d e f x y z. step_in (Set (Scalar Whole)) as_set set_of_ints left d e f) fs vs h
flows_in TupleStep plain fs vs left h = three_by (op_flow TupleStep) (stepped_integers as_tuple left) (λ a b c d e f x y z. step_in (Tuple (Scalar Whole)) as_tuple tuple_of_ints left d e f) fs vs h
flows_in Put plain fs vs left h = put_in left fs vs h
flows_in PutImages plain fs vs left h = three_by (op_flow PutImages) put_set (λ a b c d e f x y z. put_set_in a b c d e f x y z) fs vs h
flows_in SetOf plain fs vs left h = absurd plain
flows_in TupleOf plain fs vs left h = absurd plain

pub operators : OperatorsIn
operators SetOf ws vs left h = set_enumerated ws vs h
operators TupleOf ws vs left h = tuple_enumerated ws vs h
operators Negate ws vs left h = flows_in Negate tt (flows ws) vs left (have_flows ws vs h)
operators Abs ws vs left h = flows_in Abs tt (flows ws) vs left (have_flows ws vs h)
operators Even ws vs left h = flows_in Even tt (flows ws) vs left (have_flows ws vs h)
operators Odd ws vs left h = flows_in Odd tt (flows ws) vs left (have_flows ws vs h)
operators Size ws vs left h = flows_in Size tt (flows ws) vs left (have_flows ws vs h)
operators Not ws vs left h = flows_in Not tt (flows ws) vs left (have_flows ws vs h)
operators Domain ws vs left h = flows_in Domain tt (flows ws) vs left (have_flows ws vs h)
operators Range ws vs left h = flows_in Range tt (flows ws) vs left (have_flows ws vs h)
operators Arb ws vs left h = flows_in Arb tt (flows ws) vs left (have_flows ws vs h)
operators Str ws vs left h = flows_in Str tt (flows ws) vs left (have_flows ws vs h)
operators Add ws vs left h = flows_in Add tt (flows ws) vs left (have_flows ws vs h)
operators Subtract ws vs left h = flows_in Subtract tt (flows ws) vs left (have_flows ws vs h)
operators Multiply ws vs left h = flows_in Multiply tt (flows ws) vs left (have_flows ws vs h)
operators Power ws vs left h = flows_in Power tt (flows ws) vs left (have_flows ws vs h)
operators Divide ws vs left h = flows_in Divide tt (flows ws) vs left (have_flows ws vs h)
operators Modulo ws vs left h = flows_in Modulo tt (flows ws) vs left (have_flows ws vs h)
operators Max ws vs left h = flows_in Max tt (flows ws) vs left (have_flows ws vs h)
operators Min ws vs left h = flows_in Min tt (flows ws) vs left (have_flows ws vs h)
operators With ws vs left h = flows_in With tt (flows ws) vs left (have_flows ws vs h)
operators Less ws vs left h = flows_in Less tt (flows ws) vs left (have_flows ws vs h)
operators Lessf ws vs left h = flows_in Lessf tt (flows ws) vs left (have_flows ws vs h)
operators Below ws vs left h = flows_in Below tt (flows ws) vs left (have_flows ws vs h)
operators AtMost ws vs left h = flows_in AtMost tt (flows ws) vs left (have_flows ws vs h)
operators Above ws vs left h = flows_in Above tt (flows ws) vs left (have_flows ws vs h)
operators AtLeast ws vs left h = flows_in AtLeast tt (flows ws) vs left (have_flows ws vs h)
operators In ws vs left h = flows_in In tt (flows ws) vs left (have_flows ws vs h)
operators Subset ws vs left h = flows_in Subset tt (flows ws) vs left (have_flows ws vs h)
operators Includes ws vs left h = flows_in Includes tt (flows ws) vs left (have_flows ws vs h)
operators Get ws vs left h = flows_in Get tt (flows ws) vs left (have_flows ws vs h)
operators Images ws vs left h = flows_in Images tt (flows ws) vs left (have_flows ws vs h)
operators SetRange ws vs left h = flows_in SetRange tt (flows ws) vs left (have_flows ws vs h)
operators TupleRange ws vs left h = flows_in TupleRange tt (flows ws) vs left (have_flows ws vs h)
operators IsInteger ws vs left h = flows_in IsInteger tt (flows ws) vs left (have_flows ws vs h)
operators IsString ws vs left h = flows_in IsString tt (flows ws) vs left (have_flows ws vs h)
operators IsBoolean ws vs left h = flows_in IsBoolean tt (flows ws) vs left (have_flows ws vs h)
operators IsAtom ws vs left h = flows_in IsAtom tt (flows ws) vs left (have_flows ws vs h)
operators IsTuple ws vs left h = flows_in IsTuple tt (flows ws) vs left (have_flows ws vs h)
operators IsSet ws vs left h = flows_in IsSet tt (flows ws) vs left (have_flows ws vs h)
operators IsMap ws vs left h = flows_in IsMap tt (flows ws) vs left (have_flows ws vs h)
operators Equal ws vs left h = flows_in Equal tt (flows ws) vs left (have_flows ws vs h)
operators NotEqual ws vs left h = flows_in NotEqual tt (flows ws) vs left (have_flows ws vs h)
operators NotIn ws vs left h = flows_in NotIn tt (flows ws) vs left (have_flows ws vs h)
operators Pow ws vs left h = flows_in Pow tt (flows ws) vs left (have_flows ws vs h)
operators Npow ws vs left h = flows_in Npow tt (flows ws) vs left (have_flows ws vs h)
operators FoldAdd ws vs left h = flows_in FoldAdd tt (flows ws) vs left (have_flows ws vs h)
operators FoldMultiply ws vs left h = flows_in FoldMultiply tt (flows ws) vs left (have_flows ws vs h)
operators FoldMax ws vs left h = flows_in FoldMax tt (flows ws) vs left (have_flows ws vs h)
operators FoldMin ws vs left h = flows_in FoldMin tt (flows ws) vs left (have_flows ws vs h)
operators FoldAnd ws vs left h = flows_in FoldAnd tt (flows ws) vs left (have_flows ws vs h)
operators FoldOr ws vs left h = flows_in FoldOr tt (flows ws) vs left (have_flows ws vs h)
operators Slice ws vs left h = flows_in Slice tt (flows ws) vs left (have_flows ws vs h)
operators Tail ws vs left h = flows_in Tail tt (flows ws) vs left (have_flows ws vs h)
operators SetStep ws vs left h = flows_in SetStep tt (flows ws) vs left (have_flows ws vs h)
operators TupleStep ws vs left h = flows_in TupleStep tt (flows ws) vs left (have_flows ws vs h)
operators Put ws vs left h = flows_in Put tt (flows ws) vs left (have_flows ws vs h)
operators PutImages ws vs left h = flows_in PutImages tt (flows ws) vs left (have_flows ws vs h)
