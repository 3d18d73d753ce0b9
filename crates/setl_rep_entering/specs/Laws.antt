-- What is so of bases that were lengthened by the places of a value.
use Rattle.std.specs.Prelude.{◌≡◌, ◌⊎◌, ◌≤◌, ℕ, true, false, length, IsSome}
use Rattle.setl_value.specs.Datum.{Datum}
use Rattle.setl_set.specs.Sets.{has_datum}
use Rattle.setl_modes.specs.Modes.{Mode, Elements}
use Rattle.setl_modes_places.specs.Places.{elements_at, names, places_of, lengthened}
use Rattle.setl_base.specs.Base.{find}
use Rattle.setl_rep_bases.specs.declared.BaseId.{BaseId}
use Rattle.setl_rep_bases.specs.Bases.{BasesState, base_at, instance_at, named, with_entered, with_undone, IsThere}
use Rattle.setl_rep_bases.specs.Keeping.{AreKept}
use Rattle.setl_rep_entering.specs.Entering.{values_in, is_named, AreLengthened, BasesAreThere}

-- the members of a base that is there are lengthened by the values at its places
abbrev pub MembersAreLengthened : Type 0
MembersAreLengthened =
    (m : Mode) (d : Datum) (n : ℕ) (bs cs : BasesState) → BasesAreThere bs n m → AreLengthened m d n bs cs
    → (b : ℕ) → values_in (base_at cs (named bs n b)) ≡ lengthened (values_in (base_at bs (named bs n b))) (places_of b m d)

-- an instance of a base that the mode doesn't name, or that the base doesn't name in the activation, is as before
abbrev pub OthersStay : Type 0
OthersStay =
    (m : Mode) (d : Datum) (n : ℕ) (bs cs : BasesState) → AreLengthened m d n bs cs
    → (i : BaseId) → (names i.base m ≡ false → instance_at cs i ≡ instance_at bs i) × (is_named bs n i ≡ false → instance_at cs i ≡ instance_at bs i)

-- the numbers of bases name the same instances as before
abbrev pub NamesStay : Type 0
NamesStay = (m : Mode) (d : Datum) (n : ℕ) (bs cs : BasesState) → AreLengthened m d n bs cs → (k b : ℕ) → named cs k b ≡ named bs k b

-- each value at a place is a member of its base in the activation n
abbrev pub PlacesAreFound : BasesState → (n : ℕ) → Mode → Datum → Type 0
PlacesAreFound bs n m d = (b : ℕ) (x : Datum) → has_datum x (elements_at b m d) ≡ true → IsSome (find (base_at bs (named bs n b)) x)

-- and so it is once they were lengthened
abbrev pub PlacesAreMembers : Type 0
PlacesAreMembers =
    (m : Mode) (d : Datum) (n : ℕ) (bs cs : BasesState) → BasesAreThere bs n m → AreLengthened m d n bs cs → BasesAreThere cs n m × PlacesAreFound cs n m d

-- all instances are there, and all blocks live
abbrev pub BlocksAreKept : Type 0
BlocksAreKept = (m : Mode) (d : Datum) (n : ℕ) (bs cs : BasesState) → AreLengthened m d n bs cs → AreKept bs cs

-- where each value at a place was a member, nothing changes
abbrev pub MembersChangeNothing : Type 0
MembersChangeNothing = (m : Mode) (d : Datum) (n : ℕ) (bs cs : BasesState) → PlacesAreFound bs n m d → AreLengthened m d n bs cs → cs ≡ bs

-- and the bases are lengthened as they are
abbrev pub MembersLengthenNothing : Type 0
MembersLengthenNothing = (m : Mode) (d : Datum) (n : ℕ) (bs : BasesState) → PlacesAreFound bs n m d → AreLengthened m d n bs bs

-- a value lengthens bases as the part of it does that has all of its places but members
abbrev pub PartsLengthenAlike : Type 0
PartsLengthenAlike =
    (m k : Mode) (d e : Datum) (n : ℕ) (bs cs : BasesState) → ((b : ℕ) (x : Datum) → has_datum x (elements_at b k e) ≡ true → has_datum x (elements_at b m d) ≡ true)
    → ((b : ℕ) (x : Datum) → has_datum x (elements_at b m d) ≡ true → (has_datum x (elements_at b k e) ≡ true) ⊎ IsSome (find (base_at bs (named bs n b)) x))
    → AreLengthened k e n bs cs → AreLengthened m d n bs cs

-- a value that is entered into the base of its mode lengthens the bases by itself
abbrev pub ElementsAreEntered : Type 0
ElementsAreEntered =
    (m : Mode) (d : Datum) (n b : ℕ) (bs : BasesState) → IsThere bs (named bs n b) → AreLengthened (Elements b m) d n bs (with_entered bs (named bs n b) d)

-- a cut to the members that were there takes back what was entered
abbrev pub EnteredIsUndone : Type 0
EnteredIsUndone =
    (d : Datum) (bs : BasesState) (i : BaseId) → IsThere bs i
    → (length (base_at bs i).members ≤ length (base_at (with_entered bs i d) i).members) × (with_undone (with_entered bs i d) i (length (base_at bs i).members) ≡ bs)
