-- Which values the stores of a run enter into a base.
use Rattle.std.specs.Prelude.{◌≡◌, refl, pos, ℕ, List, [], ◌∷◌, length, take, drop, Option, Some, None}
use Rattle.setl_value.specs.Datum.{Datum, int, set_of}
use Rattle.setl_value.specs.Pairs.{pair}
use Rattle.setl_modes.specs.declared.mode.Form.TheVariants.{Sparse, Remote}
use Rattle.setl_model_runs.specs.Variable.{Variable}
use Rattle.setl_modes.specs.Modes.{Mode, Integers, Elements, Sets, MultiMaps}
use Rattle.setl_modes_places.specs.Places.{places_of, lengthened}
use Rattle.setl_model_runs.specs.Events.{Event, Stored, Kept, Back, Forgot}
use Rattle.setl_model.specs.Step.{declared_mode}

-- ---- the values that a store enters

-- those at the places of a base, by the mode of the variable; one that isn't declared has none, and neither has `om`
abbrev pub elements_of_store : ℕ → Option Mode → Option Datum → List Datum
elements_of_store b None v = []
elements_of_store b (Some m) None = []
elements_of_store b (Some m) (Some d) = places_of b m d

-- ---- the members of a base by the events of a run

-- The members of a base, by their block numbers from 1, and how many it had at each `ok` that is still kept, the latest
-- first.
pub record Base : Type 0 where
  pub members : List Datum
  pub kept : List ℕ

-- `fail` cuts the base back to what it had at its `ok`
abbrev pub cut_back : List ℕ → Base → Base
cut_back [] b = b
cut_back (n ∷ ns) b = record { members = take n b.members; kept = ns }

abbrev pub with_event : List (Variable × Mode) → ℕ → Base → Event → Base
with_event modes b s (Stored line x v) = record s { members = lengthened s.members (elements_of_store b (declared_mode modes x) v) }
with_event modes b s Kept = record s { kept = length s.members ∷ s.kept }
with_event modes b s Back = cut_back s.kept s
with_event modes b s Forgot = record s { kept = drop 1 s.kept }
with_event modes b s e = s

abbrev pub after_events : List (Variable × Mode) → ℕ → Base → List Event → Base
after_events modes b s [] = s
after_events modes b s (e ∷ es) = after_events modes b (with_event modes b s e) es

-- the members of base b after these events
abbrev pub entered : List (Variable × Mode) → ℕ → List Event → List Datum
entered modes b events = (after_events modes b (record { members = []; kept = [] }) events).members

-- ---- worked rows
abbrev number : ℕ → Datum
number n = int (pos n)

-- {[2 1] [2 3]} as mmap{elmt} set(elmt) of one base enters 1, 2 and 3
of_a_map : elements_of_store 0 (Some (MultiMaps Sparse (Elements 0 Integers) (Sets Remote (Elements 0 Integers)))) (Some (set_of (pair (number 2) (number 1) ∷ pair (number 2) (number 3) ∷ []))) ≡ number 1 ∷ number 2 ∷ number 3 ∷ []
of_a_map = refl
