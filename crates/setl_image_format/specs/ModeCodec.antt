-- How modes are spelled.
use Rattle.std.specs.Prelude.{◌≡◌, ℕ, zero, suc, List, [], ◌∷◌, Option, Some, None, option_map, slice_get}
use Rattle.setl_modes.specs.declared.mode.Form.{Form}
use Rattle.setl_modes.specs.declared.mode.Form.TheVariants.{Plain, Local, Remote, Sparse}
use Rattle.setl_modes.specs.Modes.{Mode, General, Integers, Strings, Booleans, Atoms, Elements, Sets, Tuples, SingleMaps, MultiMaps}
use Rattle.setl_image_format.specs.declared.kinds.Kind.{Kind}
use Rattle.setl_image_format.specs.declared.kinds.Kind.TheVariants as k
use Rattle.setl_image_codec.specs.Codec.{Codec, always, never, pair, tagged, through}
use Rattle.setl_image_codec.specs.Numbers.{number}
use Rattle.setl_image_format.specs.Steps.{placed}

abbrev pub form_place : Form → ℕ
form_place Plain = 0
form_place Local = 1
form_place Remote = 2
form_place Sparse = 3

abbrev pub a_form : Codec Form
a_form = placed form_place (Plain ∷ Local ∷ Remote ∷ Sparse ∷ [])

-- a value that is made of parts
abbrev pub built : {A B : Type 0} → (A → B) → (B → Option A) → Codec B → Codec A
built parts make c = through parts (λ a. make (parts a) ≡ Some a) make c

-- by their bytes, from 0 on
abbrev pub kinds : List Kind
kinds = k.General ∷ k.Int ∷ k.Str ∷ k.Boolean ∷ k.Atom ∷ k.Elmt ∷ k.Set ∷ k.Tuple ∷ k.Smap ∷ k.Mmap ∷ []

abbrev pub mode_tag : Mode → ℕ
mode_tag General = 0
mode_tag Integers = 1
mode_tag Strings = 2
mode_tag Booleans = 3
mode_tag Atoms = 4
mode_tag (Elements k m) = 5
mode_tag (Sets f m) = 6
mode_tag (Tuples m) = 7
mode_tag (SingleMaps f d r) = 8
mode_tag (MultiMaps f d s) = 9

-- ---- the parts of a mode

abbrev pub base_in : Mode → ℕ
base_in (Elements k m) = k
base_in m = 0

abbrev pub form_in : Mode → Form
form_in (Sets f m) = f
form_in (SingleMaps f d r) = f
form_in (MultiMaps f d s) = f
form_in m = Plain

abbrev pub first_in : Mode → Mode
first_in (Sets f m) = m
first_in (Tuples m) = m
first_in (SingleMaps f d r) = d
first_in (MultiMaps f d s) = d
first_in m = General

abbrev pub second_in : Mode → Mode
second_in (SingleMaps f d r) = r
second_in (MultiMaps f d s) = s
second_in m = General

-- what stands behind a byte, where these are the modes of the bases and the modes inside are spelled so
abbrev pub parts_of : List Mode → Codec Mode → Kind → Codec Mode
parts_of bases inner k.General = always General
parts_of bases inner k.Int = always Integers
parts_of bases inner k.Str = always Strings
parts_of bases inner k.Boolean = always Booleans
parts_of bases inner k.Atom = always Atoms
parts_of bases inner k.Elmt = built base_in (λ n. option_map (Elements n) (slice_get bases n)) number
parts_of bases inner k.Set = built {B = Form × Mode} (λ m. (form_in m, first_in m)) (λ x. Some (Sets x.0 x.1)) (pair a_form inner)
parts_of bases inner k.Tuple = built first_in (λ x. Some (Tuples x)) inner
parts_of bases inner k.Smap = built {B = Form × (Mode × Mode)} (λ m. (form_in m, (first_in m, second_in m))) (λ x. Some (SingleMaps x.0 x.1.0 x.1.1)) (pair a_form (pair inner inner))
parts_of bases inner k.Mmap = built {B = Form × (Mode × Mode)} (λ m. (form_in m, (first_in m, second_in m))) (λ x. Some (MultiMaps x.0 x.1.0 x.1.1)) (pair a_form (pair inner inner))

abbrev pub mode_behind : List Mode → Codec Mode → Option Kind → Codec Mode
mode_behind bases inner None = never
mode_behind bases inner (Some what) = parts_of bases inner what

abbrev pub mode_of_parts : List Mode → Codec Mode → Codec Mode
mode_of_parts bases inner = tagged mode_tag (λ b. mode_behind bases inner (slice_get kinds b))

-- a mode inside, where so many of `set`, `tuple`, `smap` and `mmap` may still stand inside each other
abbrev pub inner_of : (left : ℕ) → List Mode → Codec Mode
inner_of zero bases = never
inner_of (suc left) bases = mode_of_parts bases (inner_of left bases)

-- a mode, where these are the modes of the bases that it may name
abbrev pub mode : List Mode → Codec Mode
mode bases = mode_of_parts bases (inner_of 200 bases)
