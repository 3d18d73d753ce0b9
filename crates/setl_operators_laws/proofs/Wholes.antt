-- The operators on sets, tuples, strings and maps as wholes, and their selections and puts.
use Rattle.std.specs.Prelude.{ℕ, ◌+◌, ◌-◌, ◌^◌, ◌==◌, ℤ, pos, negsuc, Bool, true, false, not, List, [], ◌∷◌, ◌++◌, length, map, take, drop, replicate, slice_get, slice_range, int_le, unsigned_abs, Option, Some, None, Ok, Err, if◌then◌else◌}
use Rattle.std.specs.List.{AllByRecursion, filter_map}
use Rattle.std.specs.Option.{option_map, option_flatten}
use Rattle.std.specs.Ordering.{is_eq}
use Rattle.std.proofs.Common.{subst}
use Rattle.setl_value.specs.Copies.{are_places}
use Rattle.setl_value.specs.Datum.{Datum, bool, int, text, atom, tuple, set, part_list, element_list, set_of, tuple_of}
use Rattle.setl_value.specs.Order.{datum_cmp}
use Rattle.setl_value.specs.Pairs.{pair_parts, first_of, second_of, images}
use Rattle.setl_value.specs.WellFormed.{IsTextByte, IsTrimmed, IsValue, trim}
use Rattle.setl_set.specs.Laws.{Inserts, Gathers}
use Rattle.setl_set.specs.Sets.{insert_datum, remove_datum, set_from}
use Rattle.setl_set.specs.Subsets.{subsets, subsets_of_size, pow_of, npow_of}
use Rattle.setl_scalar.specs.Texts.{slice_of as slice_of_text}
use Rattle.setl_scalar.specs.declared.ScalarFault.TheVariants.{Range as TextRange}
use Rattle.setl_tuple.specs.declared.TupleFault.TheVariants.{Range}
use Rattle.setl_tuple.specs.Tuples.{index_of, get_of, put_of, with_of, slice_of as slice_of_tuple}
use Rattle.setl_map.specs.Maps.{domain_of, range_of, image, without_point, put_image, put_images}
use Rattle.setl_operators_table.specs.Collections.{size, least, least_member, all_subsets, some_subsets, with_datum, less_datum, enumerate_set, enumerate_tuple, domain, range, lessf_datum}
use Rattle.setl_operators_table.specs.Outcome.{Gives, Fails, RangeFault, within_depth, set_value}
use Rattle.setl_operators_table.specs.Puts.{put_part, put_value, put, put_set, add_image}
use Rattle.setl_operators_table.specs.Selections.{component, letter, get, images_of, part_of_tuple, part_of_text, slice, tail}
use Rattle.setl_operators_laws.specs.ValueLaws.{IsValueOrOm, IsCounted, AddedImagesGiveValues}
use Rattle.setl_operators_laws.specs.Lists.{all_append, all_weaker, all_take, all_drop, all_replicate, all_filter, OfSome, all_get}
use Rattle.setl_operators_laws.specs.MapValues.{domain_stands, range_stands, images_stand, rising_images, image_stands, without_stands, rising_without, put_image_stands, put_images_stand}
use Rattle.setl_operators_laws.proofs.Numbers.{int_value}
use Rattle.setl_operators_laws.specs.Outcomes.{GivesValue, AllValues, text_value, charging_gives, within_gives, map_gives}
use Rattle.setl_operators_laws.specs.SetValues.{Stands, IsPart, members, rising_members, set_stands, set_is_value, higher, all_higher, all_insert, all_set_from, rising_filter, subsets_are_parts, all_sets}
use Rattle.setl_operators_laws.specs.TupleValues.{PartStands, components, trimmed_components, tuple_stands, tuple_is_value, part_higher, part_is_value, trimmed_append, trim_is_trimmed, all_trim}

-- ---- sizes, members and subsets

pub size_gives : (d : Datum) → IsCounted d → GivesValue (size d)
size_gives (set ms) h = int_value (pos (length (element_list ms))) h
size_gives (tuple ps) h = int_value (pos (length (part_list ps))) h
size_gives (text t) h = int_value (pos (length t)) h
size_gives (bool b) h = tt
size_gives (int z) h = tt
size_gives (atom n) h = tt

pub least_gives : (d : Datum) → IsValue d → GivesValue (least_member d)
least_gives (set ms) h = go (element_list ms) (members ms h)
  where
    go : (ds : List Datum) → AllByRecursion (Stands 499) ds → IsValueOrOm (least ds)
    go [] a = tt
    go (d ∷ ds) a = higher d a.0
least_gives d h = tt

pub pow_gives : Gathers → (left : ℕ) (d : Datum) → IsValue d → GivesValue (all_subsets left d)
pow_gives g left (set ms) h =
    let xs = element_list ms in
    charging_gives (2 ^ length xs) left (within_depth (set_of (pow_of xs)))
    (within_gives (set_of (pow_of xs)) (set_stands 500 (pow_of xs) (all_set_from (Stands 500) (map set_of (subsets xs)) (all_sets (subsets xs) (subsets_are_parts xs (members ms h) (rising_members ms h)))) (g (map set_of (subsets xs))).rising).0)
pow_gives g left d h = tt

pub npow_gives : Gathers → (left : ℕ) (d e : Datum) → IsValue d → IsValue e → GivesValue (some_subsets left d e)
npow_gives g left (int (pos n)) (set ms) h k =
    let xs = element_list ms in
    let parts = all_filter IsPart (λ ys. length ys == n) (subsets xs) (subsets_are_parts xs (members ms k) (rising_members ms k)) in
    charging_gives (length (subsets_of_size n xs)) left (within_depth (set_of (npow_of n xs)))
    (within_gives (set_of (npow_of n xs)) (set_stands 500 (npow_of n xs) (all_set_from (Stands 500) (map set_of (subsets_of_size n xs)) (all_sets (subsets_of_size n xs) parts)) (g (map set_of (subsets_of_size n xs))).rising).0)
npow_gives g left (int (negsuc n)) (set ms) h k = tt
npow_gives g left d e h k = tt

-- ---- one member more or less

pub with_gives : Inserts → (d e : Datum) → IsValue d → IsValue e → GivesValue (with_datum d e)
with_gives i (set ms) e h k =
    let xs = element_list ms in
    within_gives (set_of (insert_datum e xs)) (set_stands 500 (insert_datum e xs) (all_insert (Stands 500) e xs k (all_higher xs (members ms h))) (i e xs (rising_members ms h)).rising).0
with_gives i (tuple ps) e h k =
    let xs = part_list ps in
    within_gives (tuple_of (with_of xs e)) (tuple_stands 500 (with_of xs e) (all_append (PartStands 500) xs (Some e ∷ []) (all_weaker (PartStands 499) (PartStands 500) xs part_higher (components ps h)) (k, tt)) (trimmed_append xs (Some e ∷ []) (trimmed_components ps h) tt)).0
with_gives i d e h k = tt

pub less_gives : (d e : Datum) → IsValue d → IsValue e → GivesValue (less_datum d e)
less_gives (set ms) e h k =
    let xs = element_list ms in set_is_value (remove_datum e xs) (all_filter (Stands 499) (λ x. not (is_eq (datum_cmp e x))) xs (members ms h)) (rising_filter (λ x. not (is_eq (datum_cmp e x))) xs (rising_members ms h))
less_gives d e h k = tt

-- ---- enumerations

pub set_of_gives : Gathers → (o : Option (List Datum)) → AllValues o → GivesValue (enumerate_set o)
set_of_gives g None h = tt
set_of_gives g (Some ds) h = within_gives (set_of (set_from ds)) (set_stands 500 (set_from ds) (all_set_from (Stands 500) ds h) (g ds).rising).0

operand_stands : (p : Option Datum) → IsValueOrOm p → PartStands 500 p
operand_stands None h = tt
operand_stands (Some d) h = h

pub tuple_of_gives : (vs : List (Option Datum)) → AllByRecursion IsValueOrOm vs → GivesValue (enumerate_tuple vs)
tuple_of_gives vs a =
    within_gives (tuple_of (trim vs)) (tuple_stands 500 (trim vs) (all_trim (PartStands 500) vs (all_weaker IsValueOrOm (PartStands 500) vs operand_stands a)) (trim_is_trimmed vs)).0

-- ---- maps

pub domain_gives : Gathers → (d : Datum) → IsValue d → GivesValue (domain d)
domain_gives g (set ms) h = let f = element_list ms in map_gives (λ e. set_value (domain_of e)) f (set_is_value (domain_of f) (domain_stands f (members ms h)) (g (filter_map (λ p. first_of (pair_parts p)) f)).rising)
domain_gives g d h = tt

pub range_of_gives : Gathers → (d : Datum) → IsValue d → GivesValue (range d)
range_of_gives g (set ms) h = let f = element_list ms in map_gives (λ e. set_value (range_of e)) f (set_is_value (range_of f) (range_stands f (members ms h)) (g (filter_map (λ p. second_of (pair_parts p)) f)).rising)
range_of_gives g d h = tt

pub lessf_gives : (d x : Datum) → IsValue d → IsValue x → GivesValue (lessf_datum d x)
lessf_gives (set ms) x h k =
    let f = element_list ms in map_gives (λ e. set_value (without_point x e)) f (set_is_value (without_point x f) (without_stands (Stands 499) x f (members ms h)) (rising_without x f (rising_members ms h)))
lessf_gives d x h k = tt

-- ---- selections

at_place : (o : Option (Option Datum)) → OfSome (PartStands 499) o → IsValueOrOm (option_flatten o)
at_place None h = tt
at_place (Some p) h = part_is_value p h

component_gives : (ps : List (Option Datum)) (i : ℤ) → AllByRecursion (PartStands 499) ps → GivesValue (component (get_of ps i))
component_gives ps i a = go (int_le (pos 1) i)
  where
    go : (b : Bool) → GivesValue (component (if b then Ok (option_flatten (slice_get ps (index_of i))) else Err Range))
    go true = at_place (slice_get ps (index_of i)) (all_get (PartStands 499) ps (index_of i) a)
    go false = tt

a_letter : (o : Option ℕ) → OfSome IsTextByte o → IsValueOrOm (option_map (λ b. text (b ∷ [])) o)
a_letter None h = tt
a_letter (Some b) h = text_value (b ∷ []) (h, tt)

letter_gives : (t : List ℕ) (i : ℤ) → AllByRecursion IsTextByte t → GivesValue (letter t i)
letter_gives t i a = go (int_le (pos 1) i)
  where
    go : (b : Bool) → GivesValue (if b then Gives (option_map (λ c. text (c ∷ [])) (slice_get t (index_of i))) 0 else Fails RangeFault)
    go true = a_letter (slice_get t (index_of i)) (all_get IsTextByte t (index_of i) a)
    go false = tt

pub get_gives : (d x : Datum) → IsValue d → IsValue x → GivesValue (get d x)
get_gives (set ms) x h k = let f = element_list ms in map_gives (λ e. Gives (image x e) 0) f (image_stands x f (members ms h))
get_gives (tuple ps) (int i) h k = component_gives (part_list ps) i (components ps h)
get_gives (text t) (int i) h k = letter_gives t i h.0
get_gives d x h k = tt

pub images_gives : (d x : Datum) → IsValue d → IsValue x → GivesValue (images_of d x)
images_gives (set ms) x h k =
    let f = element_list ms in map_gives (λ e. set_value (images x e)) f (set_is_value (images x f) (images_stand x f (members ms h)) (rising_images x f (rising_members ms h)))
images_gives d x h k = tt

span : {X : Type 0} (P : X → Type 0) (xs : List X) (i j : ℕ) → AllByRecursion P xs → AllByRecursion P (slice_range xs i j)
span P xs i j a = all_take P (j - i) (drop i xs) (all_drop P i xs a)

tuple_span : (ps : List (Option Datum)) (i j : ℤ) → AllByRecursion (PartStands 499) ps → GivesValue (part_of_tuple (slice_of_tuple ps i j))
tuple_span ps i j a = go (are_places i j (length ps))
  where
    go : (b : Bool) → GivesValue (part_of_tuple (if b then Ok (trim (slice_range ps (index_of i) (unsigned_abs j))) else Err Range))
    go true =
        let qs = slice_range ps (index_of i) (unsigned_abs j) in tuple_is_value (trim qs) (all_trim (PartStands 499) qs (span (PartStands 499) ps (index_of i) (unsigned_abs j) a)) (trim_is_trimmed qs)
    go false = tt

text_span : (t : List ℕ) (i j : ℤ) → AllByRecursion IsTextByte t → GivesValue (part_of_text (slice_of_text t i j))
text_span t i j a = go (are_places i j (length t))
  where
    go : (b : Bool) → GivesValue (part_of_text (if b then Ok (slice_range t (unsigned_abs i - 1) (unsigned_abs j)) else Err TextRange))
    go true = text_value (slice_range t (unsigned_abs i - 1) (unsigned_abs j)) (span IsTextByte t (unsigned_abs i - 1) (unsigned_abs j) a)
    go false = tt

pub slice_gives : (d i j : Datum) → IsValue d → GivesValue (slice d i j)
slice_gives (tuple ps) (int i) (int j) h = tuple_span (part_list ps) i j (components ps h)
slice_gives (text t) (int i) (int j) h = text_span t i j h.0
slice_gives d i j h = tt

pub tail_gives : (d i : Datum) → IsValue d → IsValue i → GivesValue (tail d i)
tail_gives (tuple ps) i h k = slice_gives (tuple ps) i (int (pos (length (part_list ps)))) h
tail_gives (text t) i h k = slice_gives (text t) i (int (pos (length t))) h
tail_gives d i h k = tt

-- ---- puts

all_put : (P : Option Datum → Type 0) (ps : List (Option Datum)) (i : ℕ) (p : Option Datum) → P None → P p → AllByRecursion P ps → AllByRecursion P (put_of ps i p)
all_put P ps i p o h a =
    all_trim P (take i ps ++ replicate (i - length ps) None ++ p ∷ drop (i + 1) ps)
    (all_append P (take i ps ++ replicate (i - length ps) None) (p ∷ drop (i + 1) ps)
    (all_append P (take i ps) (replicate (i - length ps) None) (all_take P i ps a) (all_replicate P (i - length ps) None o))
    (h, all_drop P (i + 1) ps a))

put_is_trimmed : (ps : List (Option Datum)) (i : ℕ) (p : Option Datum) → IsTrimmed (put_of ps i p)
put_is_trimmed ps i p = trim_is_trimmed (take i ps ++ replicate (i - length ps) None ++ p ∷ drop (i + 1) ps)

put_part_gives : (left i : ℕ) (y : Option Datum) (ps : List (Option Datum)) → IsValueOrOm y → AllByRecursion (PartStands 499) ps → GivesValue (put_part left i y ps)
put_part_gives left i None ps h a = tuple_is_value (put_of ps i None) (all_put (PartStands 499) ps i None tt tt a) (put_is_trimmed ps i None)
put_part_gives left i (Some d) ps h a =
    charging_gives (i - length ps) left (within_depth (tuple_of (put_of ps i (Some d))))
    (within_gives (tuple_of (put_of ps i (Some d))) (tuple_stands 500 (put_of ps i (Some d)) (all_put (PartStands 500) ps i (Some d) tt h (all_weaker (PartStands 499) (PartStands 500) ps part_higher a)) (put_is_trimmed ps i (Some d))).0)

put_place : (left : ℕ) (i : ℤ) (y : Option Datum) (ps : List (Option Datum)) → IsValueOrOm y → AllByRecursion (PartStands 499) ps → GivesValue (if int_le (pos 1) i then put_part left (index_of i) y ps else Fails RangeFault)
put_place left i y ps h a = go (int_le (pos 1) i)
  where
    go : (b : Bool) → GivesValue (if b then put_part left (index_of i) y ps else Fails RangeFault)
    go true = put_part_gives left (index_of i) y ps h a
    go false = tt

put_value_gives : Inserts → (left : ℕ) (d x : Datum) (y : Option Datum) → IsValue d → IsValue x → IsValueOrOm y → GivesValue (put_value left d x y)
put_value_gives ins left (set ms) x y h k u =
    let f = element_list ms in
    map_gives (λ e. within_depth (set_of (put_image x y e))) f
    (within_gives (set_of (put_image x y f)) (put_image_stands ins x y f k u (members ms h) (rising_members ms h)))
put_value_gives ins left (tuple ps) (int i) y h k u = put_place left i y (part_list ps) u (components ps h)
put_value_gives ins left d x y h k u = tt

pub put_gives : Inserts → (left : ℕ) (vs : List (Option Datum)) → AllByRecursion IsValueOrOm vs → GivesValue (put left vs)
put_gives ins left (Some d ∷ Some x ∷ y ∷ []) a = put_value_gives ins left d x y a.0 a.1.0 a.1.1.0
put_gives ins left vs a = tt

pub put_set_gives : Gathers → (d x s : Datum) → IsValue d → IsValue x → IsValue s → GivesValue (put_set d x s)
put_set_gives g (set ms) x (set ys) h k u =
    let f = element_list ms in
    map_gives (λ e. within_depth (set_of (put_images x (element_list ys) e))) f
    (within_gives (set_of (put_images x (element_list ys) f)) (put_images_stand g x (element_list ys) f k (all_higher (element_list ys) (members ys u)) (members ms h)))
put_set_gives g d x s h k u = tt

add_image_gives : Gathers → (d x y : Datum) → IsValue d → IsValue x → IsValue y → GivesValue (add_image d x y)
add_image_gives g (set ms) x y h k u =
    let f = element_list ms in
    let more = insert_datum y (images x f) in
    map_gives (λ e. within_depth (set_of (put_images x (insert_datum y (images x e)) e))) f
    (within_gives (set_of (put_images x more f)) (put_images_stand g x more f k (all_insert (Stands 500) y (images x f) u (all_higher (images x f) (images_stand x f (members ms h)))) (members ms h)))
add_image_gives g d x y h k u = tt

pub added_images_give_values : Gathers → AddedImagesGiveValues
added_images_give_values g d x y n v h k u e = subst GivesValue e (add_image_gives g d x y h k u)
