-- What a store of a value adds to the bases that its mode names.
use Rattle.std.specs.Prelude.{◌≡◌, ℕ, Bool, true, not, List, [], ◌∷◌, ◌++◌, map, if◌then◌else◌, refl, pos}
use Rattle.std.specs.List.{filter}
use Rattle.std.specs.Option.{option_map}
use Rattle.setl_value.specs.Datum.{Datum, int}
use Rattle.setl_set.specs.Sets.{has_datum}
use Rattle.setl_modes.specs.Modes.{Mode}
use Rattle.setl_modes_places.specs.Places.{names, places_of}
use Rattle.setl_base.specs.Base.{BaseState, Member}
use Rattle.setl_rep_bases.specs.declared.BaseId.{BaseId}
use Rattle.setl_rep_bases.specs.declared.tables.Instance.{Instance}
use Rattle.setl_rep_bases.specs.BaseId.{is_id}
use Rattle.setl_rep_bases.specs.Bases.{BasesState, instance_at, named, IsThere}

-- the values of the members of a base
abbrev pub values_in : BaseState → List Datum
values_in b = map (λ m. m.value) b.members

-- the base with these values behind its members, in their order and without those that are members
abbrev pub with_values : BaseState → List Datum → BaseState
with_values b ds = record b {
  members = b.members ++ map (λ d. record { value = d; generation = b.cuts }) (filter (λ d. not (has_datum d (values_in b))) ds);
}

-- the same in an instance
abbrev pub lengthened_by : List Datum → Instance → Instance
lengthened_by ds x = record x { base = with_values x.base ds }

-- whether the number of the base names this instance in the activation n
abbrev pub is_named : BasesState → (n : ℕ) → BaseId → Bool
is_named bs n i = is_id i (named bs n i.base)

-- the values at the places of an instance, in canonical order: those of its base, where that names it in the activation n
abbrev pub places_in : BasesState → (n : ℕ) → Mode → Datum → BaseId → List Datum
places_in bs n m d i = if is_named bs n i then places_of i.base m d else []

-- each instance has the values at its places behind its members
pub record AreLengthened (m : Mode) (d : Datum) (n : ℕ) (bs cs : BasesState) : Type 0 where
  pub count : cs.count ≡ bs.count
  pub instances : (i : BaseId) → instance_at cs i ≡ option_map (lengthened_by (places_in bs n m d i)) (instance_at bs i)

-- each base that the mode names is there in the activation n
abbrev pub BasesAreThere : BasesState → (n : ℕ) → Mode → Type 0
BasesAreThere bs n m = (b : ℕ) → names b m ≡ true → IsThere bs (named bs n b)

-- ---- worked rows
abbrev number : ℕ → Datum
number n = int (pos n)

abbrev block : ℕ → ℕ → Member
block n g = record { value = number n; generation = g }

-- a base with 30 and 10 that was cut once gains 20 alone of 10 and 20
of_a_base :
    with_values (record { members = block 30 0 ∷ block 10 0 ∷ []; cuts = 1 }) (number 10 ∷ number 20 ∷ [])
    ≡ record { members = block 30 0 ∷ block 10 0 ∷ block 20 1 ∷ []; cuts = 1 }
of_a_base = refl
