-- Bases and declared variables whose modes keep the rules of a `repr` section.
use Rattle.std.specs.Prelude.{◌≡◌, ◌↔◌, IsTrue, refl, ℕ, Bool, true, false, not, ◌&&◌, ◌||◌, List, map, slice_get, Option, Some, None}
use Rattle.std.specs.List.{AllByRecursion, list_all}
use Rattle.setl_modes.specs.declared.mode.NamedMode.{NamedMode}
use Rattle.setl_modes.specs.declared.mode.Form.{Form}
use Rattle.setl_modes.specs.declared.mode.Form.TheVariants.{Plain, Local, Remote, Sparse}
use Rattle.setl_modes.specs.Modes.{Mode, Integers, Elements, Sets, Tuples, SingleMaps, MultiMaps, mode_of}
use Rattle.setl_modes_same.specs.Same.{same_mode}

-- a name with its mode
abbrev pub Named : Type 0
Named = List ℕ × Mode

abbrev pub is_element : Mode → Bool
is_element (Elements k m) = true
is_element m = false

abbrev pub is_set : Mode → Bool
is_set (Sets f m) = true
is_set m = false

-- whether an `elmt` stands in a mode
abbrev pub has_element : Mode → Bool
has_element (Elements k m) = true
has_element (Sets f m) = has_element m
has_element (Tuples m) = has_element m
has_element (SingleMaps f d r) = has_element d || has_element r
has_element (MultiMaps f d s) = has_element d || has_element s
has_element m = false

-- whether a set or map may have a form: it isn't plain exactly where the first mode is an `elmt`, and local only where it is
-- the whole mode of a variable
abbrev pub form_fits : (whole based : Bool) → Form → Bool
form_fits whole based Plain = not based
form_fits whole based Local = whole && based
form_fits whole based Remote = based
form_fits whole based Sparse = based

-- Whether the forms in a mode fit; an `elmt` stands inside a set or map only where the first mode is one, and inside a tuple
-- only as the tuple's whole mode; and the second mode of an `mmap` is a set. What the members of a base are belongs to the
-- base.
abbrev pub keeps_rules : (whole : Bool) → Mode → Bool
keeps_rules whole (Sets f m) = form_fits whole (is_element m) f && (is_element m || not (has_element m)) && keeps_rules false m
keeps_rules whole (Tuples m) = (is_element m || not (has_element m)) && keeps_rules false m
keeps_rules whole (SingleMaps f d r) =
    form_fits whole (is_element d) f && (is_element d || not (has_element d || has_element r)) && keeps_rules false d && keeps_rules false r
keeps_rules whole (MultiMaps f d s) =
    form_fits whole (is_element d) f && (is_element d || not (has_element d || has_element s)) && is_set s && keeps_rules false d && keeps_rules false s
keeps_rules whole m = true

-- each `elmt` names a base, and has the mode of its members
abbrev pub NamesBases : (bases : List Mode) → Mode → Type 0
NamesBases bases (Elements k m) = slice_get bases k ≡ Some m
NamesBases bases (Sets f m) = NamesBases bases m
NamesBases bases (Tuples m) = NamesBases bases m
NamesBases bases (SingleMaps f d r) = NamesBases bases d × NamesBases bases r
NamesBases bases (MultiMaps f d s) = NamesBases bases d × NamesBases bases s
NamesBases bases m = Unit {0}

-- no `elmt` stands in the mode of a base, so no form but the plain one does
abbrev pub IsBaseMode : Mode → Type 0
IsBaseMode m = (has_element m ≡ false) × (keeps_rules false m ≡ true)

abbrev pub IsVariableMode : (bases : List Mode) → Mode → Type 0
IsVariableMode bases m = NamesBases bases m × (keeps_rules true m ≡ true)

-- Bases and declared variables with modes as a section may have them.
pub record SoundModes (bases vars : List Named) : Type 0 where
  pub of_bases : AllByRecursion (λ b. IsBaseMode b.1) bases
  pub of_vars : AllByRecursion (λ v. IsVariableMode (map (λ b. b.1) bases) v.1) vars

abbrev pub named_of : NamedMode → Named
named_of d = (d.name, mode_of d.mode)

-- ---- as tests

abbrev pub is_of_base : Option Mode → Mode → Bool
is_of_base None m = false
is_of_base (Some n) m = same_mode n m

-- the test says yes exactly of a base that is there and has the mode
abbrev pub BasesAreTold : Type 0
BasesAreTold = (base : Option Mode) (m : Mode) → IsTrue (is_of_base base m) ↔ (base ≡ Some m)

abbrev pub names_bases : (bases : List Mode) → Mode → Bool
names_bases bases (Elements k m) = is_of_base (slice_get bases k) m
names_bases bases (Sets f m) = names_bases bases m
names_bases bases (Tuples m) = names_bases bases m
names_bases bases (SingleMaps f d r) = names_bases bases d && names_bases bases r
names_bases bases (MultiMaps f d s) = names_bases bases d && names_bases bases s
names_bases bases m = true

abbrev pub bases_fit : List NamedMode → Bool
bases_fit bases = list_all (λ b. not (has_element (mode_of b.mode)) && keeps_rules false (mode_of b.mode)) bases

abbrev pub vars_fit : List Mode → List NamedMode → Bool
vars_fit bases vars = list_all (λ v. names_bases bases (mode_of v.mode) && keeps_rules true (mode_of v.mode)) vars

abbrev pub modes_of : List NamedMode → List Mode
modes_of bases = map (λ b. mode_of b.mode) bases

-- ---- worked rows

-- remote set(elmt b) is allowed, set(elmt b) and remote set(int) aren't
on_a_base : keeps_rules true (Sets Remote (Elements 0 Integers)) ≡ true
on_a_base = refl

plain_on_a_base : keeps_rules true (Sets Plain (Elements 0 Integers)) ≡ false
plain_on_a_base = refl

on_no_base : keeps_rules true (Sets Remote Integers) ≡ false
on_no_base = refl

-- local stands only as the first word
local_first : keeps_rules true (MultiMaps Local (Elements 0 Integers) (Sets Sparse (Elements 0 Integers))) ≡ true
local_first = refl

local_inside : keeps_rules true (Tuples (Sets Local (Elements 0 Integers))) ≡ false
local_inside = refl

-- an `elmt` inside two tuples, and as the images of a map on no base
inside_two_tuples : keeps_rules true (Tuples (Tuples (Elements 0 Integers))) ≡ false
inside_two_tuples = refl

as_images : keeps_rules true (SingleMaps Plain Integers (Elements 0 Integers)) ≡ false
as_images = refl

-- the images of an `mmap` are a set
no_set_of_images : keeps_rules true (MultiMaps Plain Integers Integers) ≡ false
no_set_of_images = refl
