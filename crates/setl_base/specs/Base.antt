-- A base as contracts see it, and what each call is on it. Element blocks, bases and their members are those of the data
-- representation sublanguage (Schwartz, Dewar, Dubinsky and Schonberg, Programming with Sets, 1986).
use Rattle.std.specs.Prelude.{◌≡◌, ℕ, zero, suc, ◌+◌, ◌<◌, ◌≤◌, ◌^◌, ◌==◌, Bool, true, false, List, [], ◌∷◌, ◌++◌, length, take, slice_get, if◌then◌else◌, Option, Some, None, is_some, IsSome, IsTrue, option_and_then, refl}
use Rattle.std.specs.Option.{option_map, option_map_or}
use Rattle.std.specs.Ordering.{is_eq, is_lt, is_gt}
use Rattle.std.specs.Coded.{Coded, code_by, coded_list, coded×, coded_ℕ}
use Rattle.setl_value.specs.Datum.{Datum}
use Rattle.setl_value.specs.code.DatumCode.{coded_datum}
use Rattle.setl_value.specs.Order.{datum_cmp}
use Rattle.setl_value.specs.WellFormed.{IsValue}
use Rattle.setl_base.specs.declared.Elt.{Elt}

-- a member: the value of an element block, and the block's generation
pub record Member : Type 0 where
  pub value : Datum
  pub generation : ℕ

-- a base: its members, the n-th of which, counted from 1, has the block number n, and the number of its cuts
pub record BaseState : Type 0 where
  pub members : List Member
  pub cuts : ℕ

abbrev coded_member : Coded Member
coded_member =
    code_by (Datum × ℕ) (coded× coded_datum coded_ℕ) (λ m. (m.value, m.generation)) (λ p. record { value = p.0; generation = p.1 }) (λ _. refl)

abbrev pub coded_base : Coded BaseState
coded_base =
    code_by (List Member × ℕ) (coded× (coded_list coded_member) coded_ℕ) (λ b. (b.members, b.cuts)) (λ p. record { members = p.0; cuts = p.1 }) (λ _. refl)

-- ---- handles

-- the handle of the block number n, whose member is m
abbrev pub handle : ℕ → Member → Elt
handle n m = record { block = n; generation = m.generation }

-- the member whose block has the number n
abbrev pub member_at : BaseState → ℕ → Option Member
member_at b zero = None
member_at b (suc i) = slice_get b.members i

-- the handle of the living block of the number n
abbrev pub elt_at : BaseState → ℕ → Option Elt
elt_at b n = option_map (handle n) (member_at b n)

-- the value of a member of this generation
abbrev pub value_in : ℕ → Member → Option Datum
value_in generation m = if m.generation == generation then Some m.value else None

-- the value of the living block that the handle names by its number and generation
abbrev pub value_of : BaseState → Elt → Option Datum
value_of b e = option_and_then (value_in e.generation) (member_at b e.block)

-- the handle names a living block
abbrev pub IsLiving : BaseState → Elt → Type 0
IsLiving b e = IsSome (value_of b e)

-- the handle of the first of these members that is d, where their numbers begin at n
abbrev pub find_from : ℕ → List Member → Datum → Option Elt
find_from n [] d = None
find_from n (m ∷ ms) d = if is_eq (datum_cmp d m.value) then Some (handle n m) else find_from (n + 1) ms d

-- the handle of the member d
abbrev pub find : BaseState → Datum → Option Elt
find b d = find_from 1 b.members d

-- ---- changes

abbrev pub empty : BaseState
empty = record { members = []; cuts = 0 }

-- the members with d at their end; the generation of a new block is the number of cuts
abbrev pub with_member : BaseState → Datum → List Member
with_member b d = b.members ++ record { value = d; generation = b.cuts } ∷ []

-- the base after d was entered, which changes nothing where d is a member
abbrev pub entered : BaseState → Datum → BaseState
entered b d = record b { members = if is_some (find b d) then b.members else with_member b d }

-- the base cut to its first n members, by a cut that counts
abbrev pub cut_back : BaseState → ℕ → BaseState
cut_back b n = record { members = take n b.members; cuts = b.cuts + 1 }

-- the base cut to its first n members, by a cut that doesn't count
abbrev pub undone : BaseState → ℕ → BaseState
undone b n = record b { members = take n b.members }

-- ---- the canonical order of the members

-- whether d is greater than the value of the block that is named; every value is, where none is named
abbrev pub is_above : BaseState → Option Elt → Datum → Bool
is_above b None d = true
is_above b (Some e) d = option_map_or (λ x. is_lt (datum_cmp x d)) (value_of b e) false

-- e is the block of the least member above `after`
pub record IsNext (b : BaseState) (after : Option Elt) (e : Elt) : Type 0 where
  pub value : Datum
  pub living : value_of b e ≡ Some value
  pub above : IsTrue (is_above b after value)
  pub least : (f : Elt) (d : Datum) → value_of b f ≡ Some d → IsTrue (is_above b after d) → is_gt (datum_cmp value d) ≡ false

-- no member is above `after`
abbrev pub IsLast : BaseState → Option Elt → Type 0
IsLast b after = (f : Elt) (d : Datum) → value_of b f ≡ Some d → is_above b after d ≡ false

-- ---- what is true of every base

pub record IsBase (b : BaseState) : Type 0 where
  -- a member stands in one block, which `find` gives
  pub found : (e : Elt) (d : Datum) → value_of b e ≡ Some d → find b d ≡ Some e
  -- the members are values
  pub values : (e : Elt) (d : Datum) → value_of b e ≡ Some d → IsValue d
  -- no generation is above the number of cuts
  pub generations : (e : Elt) → IsLiving b e → e.generation ≤ b.cuts
  -- block numbers are 64 bits wide
  pub few : length b.members < 2 ^ 64
