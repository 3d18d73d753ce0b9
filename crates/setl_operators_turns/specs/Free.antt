-- The operators that charge nothing.
use Rattle.std.specs.Prelude.{ℕ, zero, suc, ℤ, pos, Bool, true, false, nat_le, int_le, List, [], ◌∷◌, length, slice_get, Option, Some, None, Result, Ok, Err, if◌then◌else◌}
use Rattle.std.specs.Option.{option_map}
use Rattle.setl_value.specs.Datum.{Datum, bool, int, text, tuple, set, part_list, element_list, set_of, tuple_of, depth}
use Rattle.setl_value.specs.Pairs.{is_map, images}
use Rattle.setl_value.specs.WellFormed.{trim}
use Rattle.setl_set.specs.Sets.{insert_datum, set_from}
use Rattle.setl_scalar.specs.declared.ScalarFault.{ScalarFault}
use Rattle.setl_scalar.specs.declared.ScalarFault.TheVariants.{Wide, Zero, Range, NoMemory}
use Rattle.setl_scalar.specs.Integers.{add_of, sub_of, neg_of, abs_of, power_of, div_of, mod_of}
use Rattle.setl_scalar.specs.Texts.{slice_of as slice_of_text}
use Rattle.setl_tuple.specs.declared.TupleFault.{TupleFault}
use Rattle.setl_tuple.specs.Tuples.{index_of, get_of, with_of, slice_of as slice_of_tuple}
use Rattle.setl_map.specs.Maps.{domain_of, range_of, image, without_point, put_images}
use Rattle.setl_operators_table.specs.Collections.{size, least_member, with_datum, less_datum, enumerate_set, enumerate_tuple, on_map, domain, range, lessf_datum}
use Rattle.setl_operators_table.specs.Numbers.{whole, negate, absolute, is_even, is_odd, raise, divide, greater, lesser, plus, minus, modulo}
use Rattle.setl_operators_table.specs.Outcome.{Outcome, Gives, Fails, KindFault, RangeFault, DeepFault, value, set_value, within_depth, unary, binary, ternary}
use Rattle.setl_operators_table.specs.Puts.{put_set}
use Rattle.setl_operators_table.specs.Selections.{component, letter, get, images_of, part_of_tuple, part_of_text, slice, tail}
use Rattle.setl_operators_table.specs.Truths.{negation, both, either, is_below, is_at_most, is_in, subset, opposite, equality, kind_test}
use Rattle.setl_operators_turns.specs.Outcomes.{IsFree}

-- ---- parts of them

pub whole_free : (r : Result ℤ ScalarFault) → IsFree (whole r)
whole_free (Ok z) = tt
whole_free (Err Zero) = tt
whole_free (Err Range) = tt
whole_free (Err Wide) = tt
whole_free (Err NoMemory) = tt

pub within_free : (d : Datum) → IsFree (within_depth d)
within_free d = go (nat_le (depth d) 500)
  where
    go : (b : Bool) → IsFree (if b then value d else Fails DeepFault)
    go true = tt
    go false = tt

pub map_free : (make : List Datum → Outcome) (f : List Datum) → IsFree (make f) → IsFree (on_map make f)
map_free make f h = go (is_map f)
  where
    go : (b : Bool) → IsFree (if b then make f else Fails KindFault)
    go true = h
    go false = tt

pub unary_free : (f : Datum → Outcome) (o : Option (List Datum)) → ((a : Datum) → IsFree (f a)) → IsFree (unary f o)
unary_free f None h = tt
unary_free f (Some []) h = tt
unary_free f (Some (a ∷ [])) h = h a
unary_free f (Some (a ∷ b ∷ ds)) h = tt

pub binary_free : (f : Datum → Datum → Outcome) (o : Option (List Datum)) → ((a b : Datum) → IsFree (f a b)) → IsFree (binary f o)
binary_free f None h = tt
binary_free f (Some []) h = tt
binary_free f (Some (a ∷ [])) h = tt
binary_free f (Some (a ∷ b ∷ [])) h = h a b
binary_free f (Some (a ∷ b ∷ c ∷ ds)) h = tt

pub ternary_free : (f : Datum → Datum → Datum → Outcome) (o : Option (List Datum)) → ((a b c : Datum) → IsFree (f a b c)) → IsFree (ternary f o)
ternary_free f None h = tt
ternary_free f (Some []) h = tt
ternary_free f (Some (a ∷ [])) h = tt
ternary_free f (Some (a ∷ b ∷ [])) h = tt
ternary_free f (Some (a ∷ b ∷ c ∷ [])) h = h a b c
ternary_free f (Some (a ∷ b ∷ c ∷ d ∷ ds)) h = tt

-- ---- numbers

pub negate_free : (d : Datum) → IsFree (negate d)
negate_free (int z) = whole_free (neg_of z)
negate_free d = tt

pub absolute_free : (d : Datum) → IsFree (absolute d)
absolute_free (int z) = whole_free (abs_of z)
absolute_free d = tt

pub even_free : (d : Datum) → IsFree (is_even d)
even_free (int z) = tt
even_free d = tt

pub odd_free : (d : Datum) → IsFree (is_odd d)
odd_free (int z) = tt
odd_free d = tt

pub raise_free : (d e : Datum) → IsFree (raise d e)
raise_free (int a) (int b) = whole_free (power_of a b)
raise_free d e = tt

pub divide_free : (d e : Datum) → IsFree (divide d e)
divide_free (int a) (int b) = whole_free (div_of a b)
divide_free d e = tt

pub greater_free : (d e : Datum) → IsFree (greater d e)
greater_free (int a) (int b) = tt
greater_free d e = tt

pub lesser_free : (d e : Datum) → IsFree (lesser d e)
lesser_free (int a) (int b) = tt
lesser_free d e = tt

pub plus_free : (d e : Datum) → IsFree (plus d e)
plus_free (int a) (int b) = whole_free (add_of a b)
plus_free (set a) (set b) = tt
plus_free (tuple a) (tuple b) = tt
plus_free (text a) (text b) = tt
plus_free d e = tt

pub minus_free : (d e : Datum) → IsFree (minus d e)
minus_free (int a) (int b) = whole_free (sub_of a b)
minus_free (set a) (set b) = tt
minus_free d e = tt

pub modulo_free : (d e : Datum) → IsFree (modulo d e)
modulo_free (int a) (int b) = whole_free (mod_of a b)
modulo_free (set a) (set b) = tt
modulo_free d e = tt

-- ---- booleans

pub negation_free : (d : Datum) → IsFree (negation d)
negation_free (bool b) = tt
negation_free d = tt

pub both_free : (d e : Datum) → IsFree (both d e)
both_free (bool a) (bool b) = tt
both_free d e = tt

pub either_free : (d e : Datum) → IsFree (either d e)
either_free (bool a) (bool b) = tt
either_free d e = tt

pub below_free : (d e : Datum) → IsFree (is_below d e)
below_free (int a) (int b) = tt
below_free (text a) (text b) = tt
below_free d e = tt

pub at_most_free : (d e : Datum) → IsFree (is_at_most d e)
at_most_free (int a) (int b) = tt
at_most_free (text a) (text b) = tt
at_most_free d e = tt

pub in_free : (d e : Datum) → IsFree (is_in d e)
in_free d (set ms) = tt
in_free d (tuple ps) = tt
in_free d e = tt

pub subset_free : (d e : Datum) → IsFree (subset d e)
subset_free (set a) (set b) = tt
subset_free d e = tt

pub opposite_free : (o : Outcome) → IsFree o → IsFree (opposite o)
opposite_free (Gives (Some (bool b)) zero) h = tt
opposite_free (Gives (Some (bool b)) (suc n)) h = absurd h
opposite_free o h = h

pub equality_free : (vs : List (Option Datum)) → IsFree (equality vs)
equality_free [] = tt
equality_free (a ∷ []) = tt
equality_free (a ∷ b ∷ []) = tt
equality_free (a ∷ b ∷ c ∷ vs) = tt

pub kind_free : (test : Datum → Bool) (vs : List (Option Datum)) → IsFree (kind_test test vs)
kind_free test (None ∷ []) = tt
kind_free test (Some d ∷ []) = tt
kind_free test vs = tt

-- ---- sets, tuples, strings and maps

pub size_free : (d : Datum) → IsFree (size d)
size_free (set ms) = tt
size_free (tuple ps) = tt
size_free (text t) = tt
size_free d = tt

pub least_free : (d : Datum) → IsFree (least_member d)
least_free (set ms) = tt
least_free d = tt

pub with_free : (d e : Datum) → IsFree (with_datum d e)
with_free (set ms) e = within_free (set_of (insert_datum e (element_list ms)))
with_free (tuple ps) e = within_free (tuple_of (with_of (part_list ps) e))
with_free d e = tt

pub less_free : (d e : Datum) → IsFree (less_datum d e)
less_free (set ms) e = tt
less_free d e = tt

pub set_of_free : (o : Option (List Datum)) → IsFree (enumerate_set o)
set_of_free None = tt
set_of_free (Some ds) = within_free (set_of (set_from ds))

pub tuple_of_free : (vs : List (Option Datum)) → IsFree (enumerate_tuple vs)
tuple_of_free vs = within_free (tuple_of (trim vs))

pub domain_free : (d : Datum) → IsFree (domain d)
domain_free (set ms) = map_free (λ f. set_value (domain_of f)) (element_list ms) tt
domain_free d = tt

pub range_free : (d : Datum) → IsFree (range d)
range_free (set ms) = map_free (λ f. set_value (range_of f)) (element_list ms) tt
range_free d = tt

pub lessf_free : (d x : Datum) → IsFree (lessf_datum d x)
lessf_free (set ms) x = map_free (λ f. set_value (without_point x f)) (element_list ms) tt
lessf_free d x = tt

-- ---- selections

component_free : (r : Result (Option Datum) TupleFault) → IsFree (component r)
component_free (Ok p) = tt
component_free (Err e) = tt

letter_free : (t : List ℕ) (i : ℤ) → IsFree (letter t i)
letter_free t i = go (int_le (pos 1) i)
  where
    go : (b : Bool) → IsFree (if b then Gives (option_map (λ c. text (c ∷ [])) (slice_get t (index_of i))) 0 else Fails RangeFault)
    go true = tt
    go false = tt

pub get_free : (d x : Datum) → IsFree (get d x)
get_free (set ms) x = map_free (λ f. Gives (image x f) 0) (element_list ms) tt
get_free (tuple ps) (int i) = component_free (get_of (part_list ps) i)
get_free (text t) (int i) = letter_free t i
get_free d x = tt

pub images_free : (d x : Datum) → IsFree (images_of d x)
images_free (set ms) x = map_free (λ f. set_value (images x f)) (element_list ms) tt
images_free d x = tt

tuple_part_free : (r : Result (List (Option Datum)) TupleFault) → IsFree (part_of_tuple r)
tuple_part_free (Ok ps) = tt
tuple_part_free (Err e) = tt

text_part_free : (r : Result (List ℕ) ScalarFault) → IsFree (part_of_text r)
text_part_free (Ok t) = tt
text_part_free (Err e) = tt

pub slice_free : (d i j : Datum) → IsFree (slice d i j)
slice_free (tuple ps) (int i) (int j) = tuple_part_free (slice_of_tuple (part_list ps) i j)
slice_free (text t) (int i) (int j) = text_part_free (slice_of_text t i j)
slice_free d i j = tt

pub tail_free : (d i : Datum) → IsFree (tail d i)
tail_free (tuple ps) i = slice_free (tuple ps) i (int (pos (length (part_list ps))))
tail_free (text t) i = slice_free (text t) i (int (pos (length t)))
tail_free d i = tt

pub put_set_free : (d x s : Datum) → IsFree (put_set d x s)
put_set_free (set ms) x (set ys) = map_free (λ f. within_depth (set_of (put_images x (element_list ys) f))) (element_list ms) (within_free (set_of (put_images x (element_list ys) (element_list ms))))
put_set_free d x s = tt
