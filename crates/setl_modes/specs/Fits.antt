-- Which values a declared variable takes. The modes are those of the book's data representation sublanguage (Schwartz,
-- Dewar, Dubinsky and Schonberg, Programming with Sets, 1986).
use Rattle.std.specs.Prelude.{◌≡◌, refl, pos, Bool, true, false, ◌&&◌, ◌==◌, List, [], ◌∷◌, length, codes, Option, Some, None}
use Rattle.std.specs.List.{list_all}
use Rattle.setl_value.specs.Datum.{Datum, bool, int, text, atom, tuple, set, element_list, part_list, set_of, tuple_of}
use Rattle.setl_value.specs.Pairs.{pair, pair_parts, images}
use Rattle.setl_modes.specs.declared.mode.Form.TheVariants.{Plain}
use Rattle.setl_modes.specs.Modes.{Mode, General, Integers, Strings, Booleans, Atoms, Elements, Sets, Tuples, SingleMaps, MultiMaps}

-- whether `om`, which fits every mode, or a value fits, by the test of values
abbrev pub part_fits : (Datum → Bool) → Option Datum → Bool
part_fits test None = true
part_fits test (Some d) = test d

-- the first part fits and has one image, which fits
abbrev pub single_fits : (Datum → Bool) → (Datum → Bool) → List Datum → Option (Datum × Datum) → Bool
single_fits domain range f None = false
single_fits domain range f (Some p) = domain p.0 && length (images p.0 f) == 1 && range p.1

-- the first part fits, and the set of its images fits
abbrev pub multi_fits : (Datum → Bool) → (Datum → Bool) → List Datum → Option (Datum × Datum) → Bool
multi_fits domain range f None = false
multi_fits domain range f (Some p) = domain p.0 && range (set_of (images p.0 f))

-- whether a value fits a mode
abbrev pub datum_fits : Mode → Datum → Bool
datum_fits General d = true
datum_fits Integers (int z) = true
datum_fits Strings (text t) = true
datum_fits Booleans (bool b) = true
datum_fits Atoms (atom n) = true
datum_fits (Elements base m) d = datum_fits m d
datum_fits (Sets form m) (set ms) = list_all (datum_fits m) (element_list ms)
datum_fits (Tuples m) (tuple ps) = list_all (part_fits (datum_fits m)) (part_list ps)
datum_fits (SingleMaps form d r) (set ms) =
    list_all (λ p. single_fits (datum_fits d) (datum_fits r) (element_list ms) (pair_parts p)) (element_list ms)
datum_fits (MultiMaps form d s) (set ms) =
    list_all (λ p. multi_fits (datum_fits d) (datum_fits s) (element_list ms) (pair_parts p)) (element_list ms)
datum_fits m d = false

-- whether a value or `om` fits a mode
abbrev pub fits : Mode → Option Datum → Bool
fits m v = part_fits (datum_fits m) v

-- the test of a store: a variable with this declaration takes what fits its mode, and one without a declaration takes
-- every value
abbrev pub is_taken : Option Mode → Option Datum → Bool
is_taken None v = true
is_taken (Some m) v = fits m v

-- ---- worked rows
abbrev one : Datum
one = int (pos 1)

abbrev two : Datum
two = int (pos 2)

abbrev letter : Datum
letter = text (codes "a")

-- {[1 2]} fits smap(int) int, and {[1 1] [1 2]} doesn't; both fit mmap{int} set(int)
one_image : fits (SingleMaps Plain Integers Integers) (Some (set_of (pair one two ∷ []))) ≡ true
one_image = refl

two_images : fits (SingleMaps Plain Integers Integers) (Some (set_of (pair one one ∷ pair one two ∷ []))) ≡ false
two_images = refl

set_of_images : fits (MultiMaps Plain Integers (Sets Plain Integers)) (Some (set_of (pair one one ∷ pair one two ∷ []))) ≡ true
set_of_images = refl

-- {1} is no map; the empty set is one
no_map : fits (SingleMaps Plain Integers Integers) (Some (set_of (one ∷ []))) ≡ false
no_map = refl

empty_map : fits (MultiMaps Plain Integers Integers) (Some (set_of [])) ≡ true
empty_map = refl

-- [1 om 2] fits tuple(int), [1 'a'] doesn't
with_om : fits (Tuples Integers) (Some (tuple_of (Some one ∷ None ∷ Some two ∷ []))) ≡ true
with_om = refl

with_letter : fits (Tuples Integers) (Some (tuple_of (Some one ∷ Some letter ∷ []))) ≡ false
with_letter = refl

-- an element is fitted as its base's members are
element : fits (Elements 0 Strings) (Some letter) ≡ true
element = refl

other_element : fits (Elements 0 Strings) (Some one) ≡ false
other_element = refl

-- `om` fits every mode
undefined : fits Integers None ≡ true
undefined = refl
