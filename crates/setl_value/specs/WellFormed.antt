-- Which data are values. The ranges of integers and atoms, the missing byte 10 and the depth of 500 are this project's
-- limits.
use Rattle.std.specs.Prelude.{◌≡◌, refl, ℕ, zero, suc, ℤ, ◌<◌, ◌≤◌, ◌^◌, List, [], ◌∷◌, Option, Some, None, pos, negsuc}
use Rattle.std.specs.List.{AllByRecursion}
use Rattle.setl_value.specs.Datum.{Datum, bool, int, text, atom, tuple, set, Parts, no_part, om_then, part_then, Elements, no_element, element_then, depth, parts_of, elements_of, part_list, element_list}
use Rattle.setl_value.specs.Order.{IsRising}

-- the last component is there
abbrev pub EndsIn : Option Datum → List (Option Datum) → Type 0
EndsIn None [] = ⊥
EndsIn (Some d) [] = Unit {0}
EndsIn p (q ∷ ps) = EndsIn q ps

-- no component, or the last one is there
abbrev pub IsTrimmed : List (Option Datum) → Type 0
IsTrimmed [] = Unit {0}
IsTrimmed (p ∷ ps) = EndsIn p ps

-- a byte of a text
abbrev pub IsTextByte : ℕ → Type 0
IsTextByte b = (b < 256) × ((b ≡ 10) → ⊥)

-- a whole number from -2^127 to 2^127 - 1
abbrev pub IsWide : ℤ → Type 0
IsWide (pos n) = n < 2 ^ 127
IsWide (negsuc n) = n < 2 ^ 127

-- numbers and bytes in range, tuples that don't end in `om`, sets that strictly rise, at every level
abbrev mutual
  pub IsWellFormed : Datum → Type 0
  IsWellFormed (bool b) = Unit {0}
  IsWellFormed (int z) = IsWide z
  IsWellFormed (text t) = AllByRecursion IsTextByte t
  IsWellFormed (atom n) = n < 2 ^ 64
  IsWellFormed (tuple ps) = PartsAreWellFormed ps × IsTrimmed (part_list ps)
  IsWellFormed (set ms) = ElementsAreWellFormed ms × IsRising (element_list ms)

  pub PartsAreWellFormed : Parts → Type 0
  PartsAreWellFormed no_part = Unit {0}
  PartsAreWellFormed (om_then ps) = PartsAreWellFormed ps
  PartsAreWellFormed (part_then d ps) = IsWellFormed d × PartsAreWellFormed ps

  pub ElementsAreWellFormed : Elements → Type 0
  ElementsAreWellFormed no_element = Unit {0}
  ElementsAreWellFormed (element_then d ms) = IsWellFormed d × ElementsAreWellFormed ms

-- a value: at most 500 deep
abbrev pub IsValue : Datum → Type 0
IsValue d = IsWellFormed d × (depth d ≤ 500)

-- the list of a set's members
abbrev pub IsSetList : List Datum → Type 0
IsSetList ds = IsValue (set (elements_of ds))

-- the list of a tuple's components
abbrev pub IsTupleList : List (Option Datum) → Type 0
IsTupleList ps = IsValue (tuple (parts_of ps))

-- a component of a tuple
abbrev pub PartIsWellFormed : Option Datum → Type 0
PartIsWellFormed None = Unit {0}
PartIsWellFormed (Some d) = IsWellFormed d

-- the list without the `om` at its end
abbrev pub trim_onto : Option Datum → List (Option Datum) → List (Option Datum)
trim_onto None [] = []
trim_onto (Some d) ps = Some d ∷ ps
trim_onto None (p ∷ ps) = None ∷ p ∷ ps

abbrev pub trim : List (Option Datum) → List (Option Datum)
trim [] = []
trim (p ∷ ps) = trim_onto p (trim ps)

-- the list with p as its i-th component
abbrev pub put : List (Option Datum) → ℕ → Option Datum → List (Option Datum)
put [] i p = p ∷ []
put (q ∷ ps) zero p = p ∷ ps
put (q ∷ ps) (suc i) p = q ∷ put ps i p

-- [1 om] is [1], and 5 put after it gives [1 5]
trim_of_om : trim (Some (int (pos 1)) ∷ None ∷ []) ≡ Some (int (pos 1)) ∷ []
trim_of_om = refl

put_at_end : put (Some (int (pos 1)) ∷ []) 1 (Some (int (pos 5))) ≡ Some (int (pos 1)) ∷ Some (int (pos 5)) ∷ []
put_at_end = refl
