-- The items of iterators, and what is collected.
use Rattle.std.specs.Prelude.{◌≡◌, ◌==◌, ℕ, zero, suc, ◌+◌, ◌≤◌, ◌^◌, ◌-ℤ◌, Bool, true, false, nat_le, List, [], ◌∷◌, length, reverse, unsigned_abs, Option, Some, None, if◌then◌else◌, refl}
use Rattle.std.specs.List.{AllByRecursion}
use Rattle.std.specs.List.Sorted.{IsStrictlySortedBy}
use Rattle.std.proofs.Common.{subst, arith}
use Rattle.std.proofs.lemmas.Bool.{leb-false}
use Rattle.setl_value.specs.Datum.{Datum, int, text, tuple, set, depth, element_list, part_list}
use Rattle.setl_value.specs.Pairs.{is_map}
use Rattle.setl_value.specs.WellFormed.{IsTextByte, IsValue, trim}
use Rattle.setl_set.specs.Laws.{Gathers}
use Rattle.setl_set.specs.Sets.{set_from}
use Rattle.setl_map.specs.Maps.{image, domain_of}
use Rattle.setl_operators_table.specs.declared.Operator.TheVariants.{Size}
use Rattle.setl_operators_table.specs.Outcome.{KindFault, ZeroFault, DeepFault, one_more, all_values}
use Rattle.setl_operators_table.specs.Ranges.{range_from, step_from}
use Rattle.setl_operators_laws.specs.Lists.{all_weaker, all_map}
use Rattle.setl_operators_laws.specs.MapValues.{domain_stands, image_stands}
use Rattle.setl_operators_laws.specs.Outcomes.{AllValues, operands}
use Rattle.setl_operators_laws.specs.Ranges.{Stand, fits_from_wide, range_stands, steps_stand}
use Rattle.setl_operators_laws.specs.SetValues.{Stands, members, set_is_value, higher, all_set_from}
use Rattle.setl_operators_laws.specs.TupleValues.{PartStands, components, tuple_is_value, part_is_value, trim_is_trimmed, all_trim}
use Rattle.setl_operators_laws.specs.ValueLaws.{IsValueOrOm, IsCounted, CountFits}
use Rattle.setl_program.specs.declared.kinds.Collection.{Collection}
use Rattle.setl_program.specs.declared.kinds.Collection.TheVariants.{OfSet, OfTuple}
use Rattle.setl_program.specs.declared.kinds.Source.TheVariants.{Values, Between, SetSteps, TupleSteps}
use Rattle.setl_program.specs.Program.{Begin, Members, Points}
use Rattle.setl_model.specs.Collections.{collected}
use Rattle.setl_model.specs.Core.{One, Two}
use Rattle.setl_model.specs.Iterations.{Started, Starts, Refuses, singles, members as member_items, letters, map_points, place_points, values_of, points_of, integers_between, integers_stepped, one_source, of_values, items_of}
use Rattle.setl_model_values.specs.ModelValues.{ItemIsValue, PlacesFit, ItemsAreValues, AreAdmitted, CollectionsAreValues}
use Rattle.setl_model_values.proofs.Places.{all_reverse}

-- its items are values, if there are any
abbrev StartsValues : Started → Type 0
StartsValues (Starts items) = AllByRecursion ItemIsValue items
StartsValues (Refuses f) = Unit {0}

singles_are : (vs : List (Option Datum)) → AllByRecursion IsValueOrOm vs → AllByRecursion ItemIsValue (singles vs)
singles_are vs a = all_map IsValueOrOm ItemIsValue One vs (λ v h. h) a

members_are : (ds : List Datum) → Stand ds → AllByRecursion ItemIsValue (member_items ds)
members_are ds a = all_map (Stands 499) ItemIsValue (λ d. One (Some d)) ds higher a

letters_are : (t : List ℕ) → AllByRecursion IsTextByte t → AllByRecursion IsValueOrOm (letters t)
letters_are [] a = tt
letters_are (b ∷ t) a = (((a.0, tt), omega arith), letters_are t a.1)

parts_are : (ps : List (Option Datum)) → AllByRecursion (PartStands 499) ps → AllByRecursion IsValueOrOm ps
parts_are ps a = all_weaker (PartStands 499) IsValueOrOm ps part_is_value a

points_are : (f xs : List Datum) → Stand f → Stand xs → AllByRecursion ItemIsValue (map_points f xs)
points_are f xs a b = all_map (Stands 499) ItemIsValue (λ x. Two (Some x) (image x f)) xs (λ x h. (higher x h, image_stands x f a)) b

places_are : (n : ℕ) (vs : List (Option Datum)) → n + length vs ≤ 2 ^ 127 → AllByRecursion IsValueOrOm vs → AllByRecursion ItemIsValue (place_points n vs)
places_are n [] l a = tt
places_are n (v ∷ vs) l a = (((omega (arith, l), omega arith), a.0), places_are (suc n) vs (omega (arith, l)) a.1)

letters_length : (t : List ℕ) → length (letters t) ≡ length t
letters_length [] = refl
letters_length (b ∷ t) = omega (arith, letters_length t)

values_start : (d : Datum) → IsValue d → StartsValues (values_of d)
values_start (set ms) h = members_are (element_list ms) (members ms h)
values_start (tuple ps) h = singles_are (part_list ps) (parts_are (part_list ps) (components ps h))
values_start (text t) h = singles_are (letters t) (letters_are t h.0)
values_start d h = tt

points_start : (d : Datum) → IsCounted d → IsValue d → StartsValues (points_of d)
points_start (set ms) c h = go (is_map (element_list ms))
  where
    go : (b : Bool) → StartsValues (if b then Starts (map_points (element_list ms) (domain_of (element_list ms))) else Refuses KindFault)
    go true = points_are (element_list ms) (domain_of (element_list ms)) (members ms h) (domain_stands (element_list ms) (members ms h))
    go false = tt
points_start (tuple ps) c h = places_are 1 (part_list ps) (omega (arith, c)) (parts_are (part_list ps) (components ps h))
points_start (text t) c h = places_are 1 (letters t) (omega (arith, c, letters_length t)) (letters_are t h.0)
points_start d c h = tt

one_starts : (f : Datum → Started) (o : Option (List Datum)) → ((d : Datum) → IsValue d → StartsValues (f d)) → AllValues o → StartsValues (of_values (one_source f) o)
one_starts f None h a = tt
one_starts f (Some []) h a = tt
one_starts f (Some (d ∷ [])) h a = h d a.0
one_starts f (Some (d ∷ e ∷ ds)) h a = tt

between_start : (o : Option (List Datum)) → AllValues o → StartsValues (of_values integers_between o)
between_start None a = tt
between_start (Some (int x ∷ int y ∷ [])) a = members_are (range_from x y) (range_stands x y (fits_from_wide x a.0.0) (fits_from_wide y a.1.0.0))
between_start (Some ds) a = tt

no_zero : (n : ℕ) → (n == 0) ≡ false → n ≡ 0 → ⊥
no_zero zero e z = cc
no_zero (suc n) e z = omega (arith, z)

steps_start : (order : List Datum → List Datum) → ((ds : List Datum) → Stand ds → Stand (order ds)) → (o : Option (List Datum)) → AllValues o → StartsValues (of_values (integers_stepped order) o)
steps_start order k None a = tt
steps_start order k (Some (int x ∷ int y ∷ int z ∷ [])) a = go (unsigned_abs (y -ℤ x) == 0) refl
  where
    go : (t : Bool) → (unsigned_abs (y -ℤ x) == 0) ≡ t → StartsValues (if t then Refuses ZeroFault else Starts (member_items (order (step_from x y z))))
    go true e = tt
    go false e = members_are (order (step_from x y z)) (k (step_from x y z) (steps_stand x y z (fits_from_wide x a.0.0) (fits_from_wide z a.1.1.0.0) (no_zero (unsigned_abs (y -ℤ x)) e)))
steps_start order k (Some ds) a = tt

-- the one source of points is counted
several : (f : Datum → Started) (a b : Datum) (o : Option (List Datum)) → StartsValues (of_values (one_source f) (one_more a (one_more b o)))
several f a b None = tt
several f a b (Some ds) = tt

places_start : (vs : List (Option Datum)) → AllByRecursion IsValueOrOm vs → CountFits Size vs → StartsValues (of_values (one_source points_of) (all_values vs))
places_start [] a c = tt
places_start (None ∷ vs) a c = tt
places_start (Some d ∷ []) a c = points_start d c a.0
places_start (Some d ∷ None ∷ vs) a c = tt
places_start (Some d ∷ Some e ∷ vs) a c = several points_of d e (all_values vs)

items_start : (b : Begin) (vs : List (Option Datum)) → AllByRecursion IsValueOrOm vs → PlacesFit b vs → StartsValues (items_of b vs)
items_start (Members Values) vs a c = one_starts values_of (all_values vs) values_start (operands vs a)
items_start (Members Between) vs a c = between_start (all_values vs) (operands vs a)
items_start (Members SetSteps) vs a c = steps_start set_from (λ ds s. all_set_from (Stands 499) ds s) (all_values vs) (operands vs a)
items_start (Members TupleSteps) vs a c = steps_start (λ ds. ds) (λ ds s. s) (all_values vs) (operands vs a)
items_start Points vs a c = places_start vs a c

pub items_are_values : ItemsAreValues
items_are_values b vs items a c e = subst StartsValues e (items_start b vs a c)

-- ---- collections

shallow_part : (k : Collection) (d : Datum) → IsValue d → (if nat_le 500 (depth d) then Some DeepFault else None) ≡ None → Stands 499 d
shallow_part k d h = go (nat_le 500 (depth d)) refl
  where
    go : (b : Bool) → nat_le 500 (depth d) ≡ b → (if b then Some DeepFault else None) ≡ None → Stands 499 d
    go true e p = absurd (cc)
    go false e p = (h.0, omega (arith, leb-false 500 (depth d) e))

pub are_admitted : AreAdmitted
are_admitted OfSet None h e = tt
are_admitted OfTuple None h e = tt
are_admitted OfSet (Some d) h e = shallow_part OfSet d h e
are_admitted OfTuple (Some d) h e = shallow_part OfTuple d h e

abbrev Inner : Option (List Datum) → Type 0
Inner None = Unit {0}
Inner (Some ds) = Stand ds

inner_more : (d : Datum) (o : Option (List Datum)) → Stands 499 d → Inner o → Inner (one_more d o)
inner_more d None h a = tt
inner_more d (Some ds) h a = (h, a)

inner_values : (vs : List (Option Datum)) → AllByRecursion (PartStands 499) vs → Inner (all_values vs)
inner_values [] a = tt
inner_values (None ∷ vs) a = tt
inner_values (Some d ∷ vs) a = inner_more d (all_values vs) a.0 (inner_values vs a.1)

set_collected : Gathers → (vs : List (Option Datum)) (o : Option (List Datum)) → Inner o → IsValue (collected OfSet vs o)
unfolding IsStrictlySortedBy
set_collected g vs None a = set_is_value [] tt tt
set_collected g vs (Some ds) a = set_is_value (set_from ds) (all_set_from (Stands 499) ds a) (g ds).rising

pub collections_are_values : Gathers → CollectionsAreValues
collections_are_values g OfSet got a = set_collected g (reverse got) (all_values got) (inner_values got a)
collections_are_values g OfTuple got a =
    tuple_is_value (trim (reverse got)) (all_trim (PartStands 499) (reverse got) (all_reverse (PartStands 499) got a)) (trim_is_trimmed (reverse got))
