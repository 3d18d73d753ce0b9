-- What a mode asks of bases.
use Rattle.std.specs.Prelude.{◌≡◌, ℕ, true, IsSome}
use Rattle.setl_value.specs.Datum.{Datum}
use Rattle.setl_set.specs.Sets.{has_datum}
use Rattle.setl_modes.specs.Modes.{Mode}
use Rattle.setl_modes_places.specs.Places.{elements_at, names}
use Rattle.setl_base.specs.Base.{find}
use Rattle.setl_rep_bases.specs.declared.BaseId.{BaseId}
use Rattle.setl_rep_bases.specs.Bases.{BasesState, base_at, IsThere}

-- the instances of the bases of a mode are there
abbrev pub HasBases : BasesState → (name : ℕ → BaseId) → Mode → Type 0
HasBases bs name m = (b : ℕ) → names b m ≡ true → IsThere bs (name b)

-- each value at a place of a base is a member of its instance
abbrev pub PlacesAreFound : BasesState → (name : ℕ → BaseId) → Mode → Datum → Type 0
PlacesAreFound bs name m d = (b : ℕ) (x : Datum) → has_datum x (elements_at b m d) ≡ true → IsSome (find (base_at bs (name b)) x)
