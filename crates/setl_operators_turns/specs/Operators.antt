-- Each operator gives with more turns left what it gives with fewer, and charges no more than is left.
use Rattle.std.proofs.Common.{arith, refl, ℕ, pos, negsuc, Bool, true, false, List, [], ◌∷◌, Option, Some, None}
use Rattle.std.specs.Prelude.{◌≤◌, ◌^◌, ◌-◌, ℤ, ◌==◌, ◌-ℤ◌, length, unsigned_abs, int_le, map, if◌then◌else◌}
use Rattle.setl_value.specs.Datum.{Datum, bool, int, text, atom, tuple, set, part_list, element_list, set_of, tuple_of}
use Rattle.setl_set.specs.Subsets.{pow_of, npow_of, subsets_of_size}
use Rattle.setl_operators_table.specs.declared.Operator.{Operator}
use Rattle.setl_operators_table.specs.declared.Operator.TheVariants.{Negate, Abs, Even, Odd, Size, Not, Pow, Domain, Range, Arb, Str, IsInteger, IsString, IsBoolean, IsAtom, IsTuple, IsSet, IsMap, FoldAdd, FoldMultiply, FoldMax, FoldMin, FoldAnd, FoldOr, Add, Subtract, Multiply, Power, Divide, Modulo, Max, Min, With, Less, Lessf, Npow, Equal, NotEqual, Below, AtMost, Above, AtLeast, In, NotIn, Subset, Includes, Get, Images, Slice, Tail, SetOf, TupleOf, SetRange, TupleRange, SetStep, TupleStep, Put, PutImages}
use Rattle.setl_operators_table.specs.Outcome.{Outcome, Fails, ZeroFault, RangeFault, all_values, value, tuple_value, within_depth, charging, binary}
use Rattle.setl_operators_table.specs.Operators.{op_of}
use Rattle.setl_operators_table.specs.Numbers.{negate, absolute, is_even, is_odd, raise, divide, greater, lesser, plus, minus, times, modulo, replicated}
use Rattle.setl_operators_table.specs.Truths.{negation, both, either, is_below, is_at_most, is_in, subset, equality, is_integer_datum, is_string_datum, is_boolean_datum, is_atom_datum, is_tuple_datum, is_set_datum, is_map_datum}
use Rattle.setl_operators_table.specs.Collections.{size, least_member, all_subsets, some_subsets, with_datum, less_datum, domain, range, lessf_datum}
use Rattle.setl_operators_table.specs.Selections.{get, images_of, slice, tail}
use Rattle.setl_text.specs.Texts.{whole_text}
use Rattle.setl_scalar.specs.Integers.{mul_of}
use Rattle.setl_map.specs.Maps.{put_image}
use Rattle.setl_operators_table.specs.RangeRows.{as_set, as_tuple, range_of_integers, stepped_integers}
use Rattle.setl_operators_table.specs.Puts.{put, put_value, put_part, put_set}
use Rattle.setl_operators_table.specs.Ranges.{range_size, range_from, step_size, step_from}
use Rattle.setl_tuple.specs.Tuples.{index_of, put_of}
use Rattle.setl_value.specs.Copies.{copies}
use Rattle.setl_operators_table.specs.Folds.{combined, fold_on, fold_list, fold_datum, folded}
use Rattle.setl_operators_turns.specs.Outcomes.{Keeps, IsFree, free_keeps, charging_keeps, then_keeps, unary_keeps, binary_keeps, ternary_keeps}
use Rattle.setl_operators_turns.specs.Free.{absolute_free, at_most_free, below_free, binary_free, both_free, divide_free, domain_free, either_free, equality_free, even_free, get_free, greater_free, images_free, in_free, kind_free, least_free, less_free, lesser_free, lessf_free, map_free, minus_free, modulo_free, negate_free, negation_free, odd_free, opposite_free, plus_free, put_set_free, raise_free, range_free, set_of_free, size_free, slice_free, subset_free, tail_free, ternary_free, tuple_of_free, unary_free, whole_free, with_free, within_free}

module _ (few many : ℕ) (h : few ≤ many) where
  copies_keep : (n : ℤ) (d : Datum) → Keeps few (replicated few n d) (replicated many n d)
  copies_keep (pos n) (tuple ps) = charging_keeps n few many (tuple_value (copies n (part_list ps))) h tt
  copies_keep (pos n) (text t) = charging_keeps n few many (value (text (copies n t))) h tt
  copies_keep (negsuc n) (tuple ps) = refl
  copies_keep (negsuc n) (text t) = refl
  copies_keep (pos n) (bool z) = refl
  copies_keep (negsuc n) (bool z) = refl
  copies_keep (pos n) (int z) = refl
  copies_keep (negsuc n) (int z) = refl
  copies_keep (pos n) (atom z) = refl
  copies_keep (negsuc n) (atom z) = refl
  copies_keep (pos n) (set z) = refl
  copies_keep (negsuc n) (set z) = refl

  pub times_keep : (a b : Datum) → Keeps few (times few a b) (times many a b)
  times_keep (bool x) (bool y) = refl
  times_keep (bool x) (int y) = copies_keep y (bool x)
  times_keep (bool x) (text y) = refl
  times_keep (bool x) (atom y) = refl
  times_keep (bool x) (tuple y) = refl
  times_keep (bool x) (set y) = refl
  times_keep (int x) (bool y) = copies_keep x (bool y)
  times_keep (int x) (int y) = free_keeps few (times few (int x) (int y)) (whole_free (mul_of x y))
  times_keep (int x) (text y) = copies_keep x (text y)
  times_keep (int x) (atom y) = copies_keep x (atom y)
  times_keep (int x) (tuple y) = copies_keep x (tuple y)
  times_keep (int x) (set y) = copies_keep x (set y)
  times_keep (text x) (bool y) = refl
  times_keep (text x) (int y) = copies_keep y (text x)
  times_keep (text x) (text y) = refl
  times_keep (text x) (atom y) = refl
  times_keep (text x) (tuple y) = refl
  times_keep (text x) (set y) = refl
  times_keep (atom x) (bool y) = refl
  times_keep (atom x) (int y) = copies_keep y (atom x)
  times_keep (atom x) (text y) = refl
  times_keep (atom x) (atom y) = refl
  times_keep (atom x) (tuple y) = refl
  times_keep (atom x) (set y) = refl
  times_keep (tuple x) (bool y) = refl
  times_keep (tuple x) (int y) = copies_keep y (tuple x)
  times_keep (tuple x) (text y) = refl
  times_keep (tuple x) (atom y) = refl
  times_keep (tuple x) (tuple y) = refl
  times_keep (tuple x) (set y) = refl
  times_keep (set x) (bool y) = refl
  times_keep (set x) (int y) = copies_keep y (set x)
  times_keep (set x) (text y) = refl
  times_keep (set x) (atom y) = refl
  times_keep (set x) (tuple y) = refl
  times_keep (set x) (set y) = free_keeps few (times few (set x) (set y)) tt

  subsets_keep : (d : Datum) → Keeps few (all_subsets few d) (all_subsets many d)
  subsets_keep (set ms) = charging_keeps (2 ^ length (element_list ms)) few many (within_depth (set_of (pow_of (element_list ms)))) h (within_free (set_of (pow_of (element_list ms))))
  subsets_keep (bool z) = refl
  subsets_keep (int z) = refl
  subsets_keep (text z) = refl
  subsets_keep (atom z) = refl
  subsets_keep (tuple z) = refl

  sized_keep : (n d : Datum) → Keeps few (some_subsets few n d) (some_subsets many n d)
  sized_keep (int (pos n)) (set ms) = charging_keeps (length (subsets_of_size n (element_list ms))) few many (within_depth (set_of (npow_of n (element_list ms)))) h (within_free (set_of (npow_of n (element_list ms))))
  sized_keep (int (negsuc n)) (set ms) = refl
  sized_keep (int (pos n)) (bool z) = refl
  sized_keep (int (negsuc n)) (bool z) = refl
  sized_keep (int (pos n)) (int z) = refl
  sized_keep (int (negsuc n)) (int z) = refl
  sized_keep (int (pos n)) (text z) = refl
  sized_keep (int (negsuc n)) (text z) = refl
  sized_keep (int (pos n)) (atom z) = refl
  sized_keep (int (negsuc n)) (atom z) = refl
  sized_keep (int (pos n)) (tuple z) = refl
  sized_keep (int (negsuc n)) (tuple z) = refl
  sized_keep (bool y) d = refl
  sized_keep (text y) d = refl
  sized_keep (atom y) d = refl
  sized_keep (tuple y) d = refl
  sized_keep (set y) d = refl

  range_keeps : (make : List Datum → Outcome) → ((ds : List Datum) → IsFree (make ds)) → (a b : Datum) → Keeps few (range_of_integers make few a b) (range_of_integers make many a b)
  range_keeps make free (int a) (int b) = charging_keeps (range_size a b) few many (make (range_from a b)) h (free (range_from a b))
  range_keeps make free (int a) (bool z) = refl
  range_keeps make free (int a) (text z) = refl
  range_keeps make free (int a) (atom z) = refl
  range_keeps make free (int a) (tuple z) = refl
  range_keeps make free (int a) (set z) = refl
  range_keeps make free (bool y) b = refl
  range_keeps make free (text y) b = refl
  range_keeps make free (atom y) b = refl
  range_keeps make free (tuple y) b = refl
  range_keeps make free (set y) b = refl

  steps_keep : (make : List Datum → Outcome) → ((ds : List Datum) → IsFree (make ds)) → (a b c : Datum) → Keeps few (stepped_integers make few a b c) (stepped_integers make many a b c)
  steps_keep make free (int a) (int b) (int c) = go (unsigned_abs (b -ℤ a) == 0)
    where
      go : (z : Bool) → Keeps few (if z then Fails ZeroFault else charging (step_size a b c) few (make (step_from a b c))) (if z then Fails ZeroFault else charging (step_size a b c) many (make (step_from a b c)))
      go true = refl
      go false = charging_keeps (step_size a b c) few many (make (step_from a b c)) h (free (step_from a b c))
  steps_keep make free (int a) (int b) (bool z) = refl
  steps_keep make free (int a) (int b) (text z) = refl
  steps_keep make free (int a) (int b) (atom z) = refl
  steps_keep make free (int a) (int b) (tuple z) = refl
  steps_keep make free (int a) (int b) (set z) = refl
  steps_keep make free (int a) (bool y) c = refl
  steps_keep make free (int a) (text y) c = refl
  steps_keep make free (int a) (atom y) c = refl
  steps_keep make free (int a) (tuple y) c = refl
  steps_keep make free (int a) (set y) c = refl
  steps_keep make free (bool x) b c = refl
  steps_keep make free (text x) b c = refl
  steps_keep make free (atom x) b c = refl
  steps_keep make free (tuple x) b c = refl
  steps_keep make free (set x) b c = refl

  part_keeps : (i : ℕ) (y : Option Datum) (ps : List (Option Datum)) → Keeps few (put_part few i y ps) (put_part many i y ps)
  part_keeps i None ps = (refl, omega arith)
  part_keeps i (Some d) ps = charging_keeps (i - length ps) few many (within_depth (tuple_of (put_of ps i (Some d)))) h (within_free (tuple_of (put_of ps i (Some d))))

  puts_keep : (d x : Datum) (y : Option Datum) → Keeps few (put_value few d x y) (put_value many d x y)
  puts_keep (set ms) x y = free_keeps few (put_value few (set ms) x y) (map_free (λ f. within_depth (set_of (put_image x y f))) (element_list ms) (within_free (set_of (put_image x y (element_list ms)))))
  puts_keep (tuple ps) (int i) y = go (int_le (pos 1) i)
    where
      go : (z : Bool) → Keeps few (if z then put_part few (index_of i) y (part_list ps) else Fails RangeFault) (if z then put_part many (index_of i) y (part_list ps) else Fails RangeFault)
      go true = part_keeps (index_of i) y (part_list ps)
      go false = refl
  puts_keep (tuple ps) (bool z) y = refl
  puts_keep (tuple ps) (text z) y = refl
  puts_keep (tuple ps) (atom z) y = refl
  puts_keep (tuple ps) (tuple z) y = refl
  puts_keep (tuple ps) (set z) y = refl
  puts_keep (bool z) x y = refl
  puts_keep (int z) x y = refl
  puts_keep (text z) x y = refl
  puts_keep (atom z) x y = refl

  put_keeps : (vs : List (Option Datum)) → Keeps few (put few vs) (put many vs)
  put_keeps [] = refl
  put_keeps (None ∷ vs) = refl
  put_keeps (Some d ∷ []) = refl
  put_keeps (Some d ∷ None ∷ vs) = refl
  put_keeps (Some d ∷ Some x ∷ []) = refl
  put_keeps (Some d ∷ Some x ∷ y ∷ []) = puts_keep d x y
  put_keeps (Some d ∷ Some x ∷ y ∷ z ∷ vs) = refl

-- what two members give
abbrev Combines : (ℕ → Datum → Datum → Outcome) → Type 0
Combines f = (few many : ℕ) → few ≤ many → (a b : Datum) → Keeps few (f few a b) (f many a b)

folds_on : (f : ℕ → Datum → Datum → Outcome) → Combines f → (ws : List (Option Datum)) (v : Option Datum) (few many : ℕ) → few ≤ many → Keeps few (fold_on f v ws few) (fold_on f v ws many)
folds_on f fits [] v few many h = (refl, omega arith)
folds_on f fits (w ∷ ws) v few many h =
    then_keeps (combined f v w few) (combined f v w many) few many (λ new later. fold_on f new ws later) h
    (binary_keeps few (f few) (f many) (all_values (v ∷ w ∷ [])) (fits few many h))
    (λ new a b k. folds_on f fits ws new a b k)

folds_list : (f : ℕ → Datum → Datum → Outcome) → Combines f → (vs : List (Option Datum)) (few many : ℕ) → few ≤ many → Keeps few (fold_list f vs few) (fold_list f vs many)
folds_list f fits [] few many h = (refl, omega arith)
folds_list f fits (v ∷ vs) few many h = folds_on f fits vs v few many h

folds_datum : (f : ℕ → Datum → Datum → Outcome) → Combines f → (few many : ℕ) → few ≤ many → (d : Datum) → Keeps few (fold_datum f few d) (fold_datum f many d)
folds_datum f fits few many h (set ms) = folds_list f fits (map Some (element_list ms)) few many h
folds_datum f fits few many h (tuple ps) = folds_list f fits (part_list ps) few many h
folds_datum f fits few many h (bool z) = refl
folds_datum f fits few many h (int z) = refl
folds_datum f fits few many h (text z) = refl
folds_datum f fits few many h (atom z) = refl

folds : (f : ℕ → Datum → Datum → Outcome) → Combines f → (vs : List (Option Datum)) (few many : ℕ) → few ≤ many → Keeps few (folded f vs few) (folded f vs many)
folds f fits vs few many h = unary_keeps few (fold_datum f few) (fold_datum f many) (all_values vs) (folds_datum f fits few many h)

-- one that doesn't read the turns left
alike : (f : Datum → Datum → Outcome) → ((a b : Datum) → IsFree (f a b)) → Combines (λ now. f)
alike f free few many h a b = free_keeps few (f a b) (free a b)

pub op_keeps : (o : Operator) (vs : List (Option Datum)) (few many : ℕ) → few ≤ many → Keeps few (op_of o vs few) (op_of o vs many)
op_keeps Negate vs few many h = free_keeps few (op_of Negate vs few) (unary_free negate (all_values vs) negate_free)
op_keeps Abs vs few many h = free_keeps few (op_of Abs vs few) (unary_free absolute (all_values vs) absolute_free)
op_keeps Even vs few many h = free_keeps few (op_of Even vs few) (unary_free is_even (all_values vs) even_free)
op_keeps Odd vs few many h = free_keeps few (op_of Odd vs few) (unary_free is_odd (all_values vs) odd_free)
op_keeps Size vs few many h = free_keeps few (op_of Size vs few) (unary_free size (all_values vs) size_free)
op_keeps Not vs few many h = free_keeps few (op_of Not vs few) (unary_free negation (all_values vs) negation_free)
op_keeps Pow vs few many h = unary_keeps few (all_subsets few) (all_subsets many) (all_values vs) (subsets_keep few many h)
op_keeps Domain vs few many h = free_keeps few (op_of Domain vs few) (unary_free domain (all_values vs) domain_free)
op_keeps Range vs few many h = free_keeps few (op_of Range vs few) (unary_free range (all_values vs) range_free)
op_keeps Arb vs few many h = free_keeps few (op_of Arb vs few) (unary_free least_member (all_values vs) least_free)
op_keeps Str vs few many h = free_keeps few (op_of Str vs few) (unary_free (λ d. value (text (whole_text d))) (all_values vs) (λ d. tt))
op_keeps IsInteger vs few many h = free_keeps few (op_of IsInteger vs few) (kind_free is_integer_datum vs)
op_keeps IsString vs few many h = free_keeps few (op_of IsString vs few) (kind_free is_string_datum vs)
op_keeps IsBoolean vs few many h = free_keeps few (op_of IsBoolean vs few) (kind_free is_boolean_datum vs)
op_keeps IsAtom vs few many h = free_keeps few (op_of IsAtom vs few) (kind_free is_atom_datum vs)
op_keeps IsTuple vs few many h = free_keeps few (op_of IsTuple vs few) (kind_free is_tuple_datum vs)
op_keeps IsSet vs few many h = free_keeps few (op_of IsSet vs few) (kind_free is_set_datum vs)
op_keeps IsMap vs few many h = free_keeps few (op_of IsMap vs few) (kind_free is_map_datum vs)
op_keeps FoldAdd vs few many h = folds (λ now. plus) (alike plus plus_free) vs few many h
op_keeps FoldMultiply vs few many h = folds times times_keep vs few many h
op_keeps FoldMax vs few many h = folds (λ now. greater) (alike greater greater_free) vs few many h
op_keeps FoldMin vs few many h = folds (λ now. lesser) (alike lesser lesser_free) vs few many h
op_keeps FoldAnd vs few many h = folds (λ now. both) (alike both both_free) vs few many h
op_keeps FoldOr vs few many h = folds (λ now. either) (alike either either_free) vs few many h
op_keeps Add vs few many h = free_keeps few (op_of Add vs few) (binary_free plus (all_values vs) plus_free)
op_keeps Subtract vs few many h = free_keeps few (op_of Subtract vs few) (binary_free minus (all_values vs) minus_free)
op_keeps Multiply vs few many h = binary_keeps few (times few) (times many) (all_values vs) (times_keep few many h)
op_keeps Power vs few many h = free_keeps few (op_of Power vs few) (binary_free raise (all_values vs) raise_free)
op_keeps Divide vs few many h = free_keeps few (op_of Divide vs few) (binary_free divide (all_values vs) divide_free)
op_keeps Modulo vs few many h = free_keeps few (op_of Modulo vs few) (binary_free modulo (all_values vs) modulo_free)
op_keeps Max vs few many h = free_keeps few (op_of Max vs few) (binary_free greater (all_values vs) greater_free)
op_keeps Min vs few many h = free_keeps few (op_of Min vs few) (binary_free lesser (all_values vs) lesser_free)
op_keeps With vs few many h = free_keeps few (op_of With vs few) (binary_free with_datum (all_values vs) with_free)
op_keeps Less vs few many h = free_keeps few (op_of Less vs few) (binary_free less_datum (all_values vs) less_free)
op_keeps Lessf vs few many h = free_keeps few (op_of Lessf vs few) (binary_free lessf_datum (all_values vs) lessf_free)
op_keeps Npow vs few many h = binary_keeps few (some_subsets few) (some_subsets many) (all_values vs) (sized_keep few many h)
op_keeps Equal vs few many h = free_keeps few (op_of Equal vs few) (equality_free vs)
op_keeps NotEqual vs few many h = free_keeps few (op_of NotEqual vs few) (opposite_free (equality vs) (equality_free vs))
op_keeps Below vs few many h = free_keeps few (op_of Below vs few) (binary_free is_below (all_values vs) below_free)
op_keeps AtMost vs few many h = free_keeps few (op_of AtMost vs few) (binary_free is_at_most (all_values vs) at_most_free)
op_keeps Above vs few many h = free_keeps few (op_of Above vs few) (binary_free (λ a b. is_below b a) (all_values vs) (λ a b. below_free b a))
op_keeps AtLeast vs few many h = free_keeps few (op_of AtLeast vs few) (binary_free (λ a b. is_at_most b a) (all_values vs) (λ a b. at_most_free b a))
op_keeps In vs few many h = free_keeps few (op_of In vs few) (binary_free is_in (all_values vs) in_free)
op_keeps NotIn vs few many h = free_keeps few (op_of NotIn vs few) (opposite_free (binary is_in (all_values vs)) (binary_free is_in (all_values vs) in_free))
op_keeps Subset vs few many h = free_keeps few (op_of Subset vs few) (binary_free subset (all_values vs) subset_free)
op_keeps Includes vs few many h = free_keeps few (op_of Includes vs few) (binary_free (λ a b. subset b a) (all_values vs) (λ a b. subset_free b a))
op_keeps Get vs few many h = free_keeps few (op_of Get vs few) (binary_free get (all_values vs) get_free)
op_keeps Images vs few many h = free_keeps few (op_of Images vs few) (binary_free images_of (all_values vs) images_free)
op_keeps Slice vs few many h = free_keeps few (op_of Slice vs few) (ternary_free slice (all_values vs) slice_free)
op_keeps Tail vs few many h = free_keeps few (op_of Tail vs few) (binary_free tail (all_values vs) tail_free)
op_keeps SetOf vs few many h = free_keeps few (op_of SetOf vs few) (set_of_free (all_values vs))
op_keeps TupleOf vs few many h = free_keeps few (op_of TupleOf vs few) (tuple_of_free vs)
op_keeps SetRange vs few many h = binary_keeps few (range_of_integers as_set few) (range_of_integers as_set many) (all_values vs) (range_keeps few many h as_set (λ ds. tt))
op_keeps TupleRange vs few many h = binary_keeps few (range_of_integers as_tuple few) (range_of_integers as_tuple many) (all_values vs) (range_keeps few many h as_tuple (λ ds. tt))
op_keeps SetStep vs few many h = ternary_keeps few (stepped_integers as_set few) (stepped_integers as_set many) (all_values vs) (steps_keep few many h as_set (λ ds. tt))
op_keeps TupleStep vs few many h = ternary_keeps few (stepped_integers as_tuple few) (stepped_integers as_tuple many) (all_values vs) (steps_keep few many h as_tuple (λ ds. tt))
op_keeps Put vs few many h = put_keeps few many h vs
op_keeps PutImages vs few many h = free_keeps few (op_of PutImages vs few) (ternary_free put_set (all_values vs) put_set_free)
