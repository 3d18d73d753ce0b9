-- The bases that a store tells, by their numbers from 0 on, and what each call makes of them.
use Rattle.std.specs.Prelude.{◌≡◌, refl, pos, ℕ, zero, suc, List, [], ◌∷◌, length, map, drop, Option, Some, None}
use Rattle.setl_value.specs.Datum.{Datum, int, set_of}
use Rattle.setl_modes.specs.declared.mode.Form.TheVariants.{Remote}
use Rattle.setl_modes.specs.Modes.{Mode, Integers, Elements, Sets}
use Rattle.setl_modes_places.specs.Places.{places_of, lengthened}
use Rattle.setl_model.specs.Entered.{Base, cut_back}

-- so many, without members
abbrev pub no_members : ℕ → List Base
no_members zero = []
no_members (suc n) = record { members = []; kept = [] } ∷ no_members n

-- each, from the n-th on, has the values at its places of a value of this mode behind its members
abbrev pub with_places : ℕ → Mode → Datum → List Base → List Base
with_places n m d [] = []
with_places n m d (b ∷ bs) = record b { members = lengthened b.members (places_of n m d) } ∷ with_places (suc n) m d bs

-- the same of a value or `om`, which has no places
abbrev pub with_part : Mode → Option Datum → List Base → List Base
with_part m None bs = bs
with_part m (Some d) bs = with_places 0 m d bs

-- as `ok`, `fail` and `succeed` leave them
abbrev pub with_kept : List Base → List Base
with_kept bs = map (λ (b : Base). record b { kept = length b.members ∷ b.kept }) bs

abbrev pub cut_to_kept : List Base → List Base
cut_to_kept bs = map (λ (b : Base). cut_back b.kept b) bs

abbrev pub without_kept : List Base → List Base
without_kept bs = map (λ (b : Base). record b { kept = drop 1 b.kept }) bs

-- ---- worked rows
abbrev number : ℕ → Datum
number n = int (pos n)

-- {8 9} as remote set(elmt) of the second of two bases
of_a_set :
    with_places 0 (Sets Remote (Elements 1 Integers)) (set_of (number 8 ∷ number 9 ∷ [])) (record { members = number 8 ∷ []; kept = [] } ∷ record { members = number 9 ∷ []; kept = 0 ∷ [] } ∷ [])
    ≡ record { members = number 8 ∷ []; kept = [] } ∷ record { members = number 9 ∷ number 8 ∷ []; kept = 0 ∷ [] } ∷ []
of_a_set = refl

-- what was entered since `ok` goes by `fail`
of_a_fail : cut_to_kept (record { members = number 9 ∷ number 8 ∷ []; kept = 1 ∷ 0 ∷ [] } ∷ []) ≡ record { members = number 9 ∷ []; kept = 0 ∷ [] } ∷ []
of_a_fail = refl
