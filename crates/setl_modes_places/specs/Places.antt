-- Which values stand at the places of a base in a value, and what a base gains by them.
use Rattle.std.specs.Prelude.{◌≡◌, refl, pos, ℕ, Bool, true, false, not, ◌||◌, ◌==◌, List, [], ◌∷◌, ◌++◌, cond, Option, Some, None}
use Rattle.std.specs.List.{filter, flat_map}
use Rattle.setl_value.specs.Datum.{Datum, int, tuple, set, element_list, part_list, set_of}
use Rattle.setl_value.specs.Pairs.{pair, pair_parts, images}
use Rattle.setl_set.specs.Sets.{has_datum, set_from}
use Rattle.setl_modes.specs.declared.mode.Form.TheVariants.{Sparse, Remote}
use Rattle.setl_modes.specs.Modes.{Mode, Integers, Elements, Sets, Tuples, SingleMaps, MultiMaps}

-- ---- the places of a value

abbrev pub at_part : (Datum → List Datum) → Option Datum → List Datum
at_part find None = []
at_part find (Some d) = find d

abbrev pub at_pair : (Datum → List Datum) → (Datum → List Datum) → Option (Datum × Datum) → List Datum
at_pair domain range None = []
at_pair domain range (Some p) = domain p.0 ++ range p.1

abbrev pub at_point : (Datum → List Datum) → (Datum → List Datum) → List Datum → Option (Datum × Datum) → List Datum
at_point domain range f None = []
at_point domain range f (Some p) = domain p.0 ++ range (set_of (images p.0 f))

-- the values that stand at places `elmt b` of a value of this mode, in no order and perhaps several times
abbrev pub elements_at : (b : ℕ) → Mode → Datum → List Datum
elements_at b (Elements base m) d = cond (base == b) (d ∷ []) []
elements_at b (Sets form m) (set ms) = flat_map (elements_at b m) (element_list ms)
elements_at b (Tuples m) (tuple ps) = flat_map (at_part (elements_at b m)) (part_list ps)
elements_at b (SingleMaps form d r) (set ms) =
    flat_map (λ p. at_pair (elements_at b d) (elements_at b r) (pair_parts p)) (element_list ms)
elements_at b (MultiMaps form d s) (set ms) =
    flat_map (λ p. at_point (elements_at b d) (elements_at b s) (element_list ms) (pair_parts p)) (element_list ms)
elements_at b m d = []

-- the set of them, in canonical order
abbrev pub places_of : (b : ℕ) → Mode → Datum → List Datum
places_of b m d = set_from (elements_at b m d)

-- the members of a base after a store: the values that aren't members yet are appended in their order
abbrev pub lengthened : List Datum → List Datum → List Datum
lengthened members ds = members ++ filter (λ d. not (has_datum d members)) ds

-- ---- the bases of a mode

-- whether the mode has a place `elmt b`; the members of a base have no places
abbrev pub names : (b : ℕ) → Mode → Bool
names b (Elements base m) = base == b
names b (Sets form m) = names b m
names b (Tuples m) = names b m
names b (SingleMaps form d r) = names b d || names b r
names b (MultiMaps form d s) = names b d || names b s
names b m = false

abbrev pub PlacesAreNamed : Type 0
PlacesAreNamed = (b : ℕ) (m : Mode) (d : Datum) → names b m ≡ false → elements_at b m d ≡ []

-- ---- worked rows
abbrev number : ℕ → Datum
number n = int (pos n)

-- {[2 1] [2 3]} as mmap{elmt} set(elmt) of one base has 1, 2 and 3
of_a_map : places_of 0 (MultiMaps Sparse (Elements 0 Integers) (Sets Remote (Elements 0 Integers))) (set_of (pair (number 2) (number 1) ∷ pair (number 2) (number 3) ∷ [])) ≡ number 1 ∷ number 2 ∷ number 3 ∷ []
of_a_map = refl

-- 30, 10 is lengthened by 20 alone
of_a_set : lengthened (number 30 ∷ number 10 ∷ []) (number 10 ∷ number 20 ∷ []) ≡ number 30 ∷ number 10 ∷ number 20 ∷ []
of_a_set = refl
