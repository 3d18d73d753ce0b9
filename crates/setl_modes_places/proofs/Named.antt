-- A mode that doesn't name a base has no places of it.
use Rattle.std.proofs.Common.{◌≡◌, ℕ, Bool, true, false, ◌||◌, ◌==◌, cond, List, [], ◌∷◌, ◌++◌, Option, Some, None, refl, ap, sym}
use Rattle.std.proofs.lemmas.Bool.{false≢true}
use Rattle.std.specs.List.{flat_map}
use Rattle.setl_value.specs.Datum.{Datum, tuple, set, element_list, part_list, set_of}
use Rattle.setl_value.specs.Pairs.{pair_parts, images}
use Rattle.setl_modes.specs.Modes.{Mode, Elements, Sets, Tuples, SingleMaps, MultiMaps}
use Rattle.setl_modes_places.specs.Places.{at_part, at_pair, at_point, elements_at, names, PlacesAreNamed}

none : {A : Type 0} (p : A → List Datum) (xs : List A) → ((x : A) → p x ≡ []) → flat_map p xs ≡ []
none p [] h = refl
none p (x ∷ xs) h = λ i. h x i ++ none p xs h i

-- neither of two
left : (a b : Bool) → (a || b) ≡ false → a ≡ false
left false b h = refl
left true b h = h

right : (a b : Bool) → (a || b) ≡ false → b ≡ false
right false b h = h
right true b h = absurd (false≢true (sym h))

at_no_part : (p : Datum → List Datum) → ((d : Datum) → p d ≡ []) → (o : Option Datum) → at_part p o ≡ []
at_no_part p h None = refl
at_no_part p h (Some d) = h d

at_no_pair : (p q : Datum → List Datum) → ((d : Datum) → p d ≡ []) → ((d : Datum) → q d ≡ []) → (o : Option (Datum × Datum)) → at_pair p q o ≡ []
at_no_pair p q h k None = refl
at_no_pair p q h k (Some x) = λ i. h x.0 i ++ k x.1 i

at_no_point : (p q : Datum → List Datum) (f : List Datum) → ((d : Datum) → p d ≡ []) → ((d : Datum) → q d ≡ []) → (o : Option (Datum × Datum)) → at_point p q f o ≡ []
at_no_point p q f h k None = refl
at_no_point p q f h k (Some x) = λ i. h x.0 i ++ k (set_of (images x.0 f)) i

pub places_are_named : PlacesAreNamed
places_are_named b (Elements c m) d h = ap (λ t. cond t (d ∷ []) []) h
places_are_named b (Sets f m) (set ms) h = none (elements_at b m) (element_list ms) (λ d. places_are_named b m d h)
places_are_named b (Tuples m) (tuple ps) h = none (at_part (elements_at b m)) (part_list ps) (at_no_part (elements_at b m) (λ d. places_are_named b m d h))
places_are_named b (SingleMaps f d r) (set ms) h =
    let p : (x : Datum) → elements_at b d x ≡ [] = λ x. places_are_named b d x (left (names b d) (names b r) h) in
    let q : (x : Datum) → elements_at b r x ≡ [] = λ x. places_are_named b r x (right (names b d) (names b r) h) in
    none (λ x. at_pair (elements_at b d) (elements_at b r) (pair_parts x)) (element_list ms) (λ x. at_no_pair (elements_at b d) (elements_at b r) p q (pair_parts x))
places_are_named b (MultiMaps f d s) (set ms) h =
    let p : (x : Datum) → elements_at b d x ≡ [] = λ x. places_are_named b d x (left (names b d) (names b s) h) in
    let q : (x : Datum) → elements_at b s x ≡ [] = λ x. places_are_named b s x (right (names b d) (names b s) h) in
    none (λ x. at_point (elements_at b d) (elements_at b s) (element_list ms) (pair_parts x)) (element_list ms) (λ x. at_no_point (elements_at b d) (elements_at b s) (element_list ms) p q (pair_parts x))
places_are_named b m d h = refl
