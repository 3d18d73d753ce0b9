-- What the run of a program and the run of its code have alike besides their variables: the world, and how an operation
-- spends turns, stops and decides.
use Rattle.std.specs.Prelude.{ℕ, ◌-◌, Bool, true, false, List, Option, Some, None}
use Rattle.setl_value.specs.Datum.{Datum, bool}
use Rattle.setl_operators_table.specs.Outcome.{Fault, OmFault, KindFault, ZeroFault, RangeFault, WideFault, DeepFault, Outcome, Gives, Fails, Overspends}
use Rattle.setl_model_runs.specs.Events.{StopKind, Om, Kind, Zero, Range, Wide, Deep, Stopped, Spent}
use Rattle.setl_model_runs.specs.Turns.{left_after}
use Rattle.setl_model_runs.specs.Run.{Move, Halts}

-- What `fail` doesn't take back: the bytes of the input that are left, whether a read met its end, the next atom and the
-- turns left.
pub record World : Type 0 where
  pub input : List ℕ
  pub eof : Bool
  pub atom : ℕ
  pub left : ℕ

-- How a core holds its world.
pub record Holding (C : Type 0) : Type 0 where
  pub world : C → World
  pub put : World → C → C

-- the stop by a fault of an operator
abbrev pub stop_of : Fault → StopKind
stop_of OmFault = Om
stop_of KindFault = Kind
stop_of ZeroFault = Zero
stop_of RangeFault = Range
stop_of WideFault = Wide
stop_of DeepFault = Deep

-- ends the run by a fault at a line
abbrev pub stop : {C : Type 0} → Fault → ℕ → Move C
stop fault line = Halts (Stopped (stop_of fault) line)

-- goes on by a condition at a line, which must be a boolean
abbrev pub branch : {C : Type 0} → Option Datum → ℕ → Move C → Move C → Move C
branch (Some (bool true)) line holds fails = holds
branch (Some (bool false)) line holds fails = fails
branch None line holds fails = stop OmFault line
branch (Some d) line holds fails = stop KindFault line

module _ {C : Type 0} (h : Holding C) where
  -- the core with so many turns left
  abbrev pub with_left : ℕ → C → C
  with_left n c = h.put (record (h.world c) { left = n }) c

  -- goes on with so many turns left, where there are enough
  abbrev pub go_with : Option ℕ → C → (C → Move C) → Move C
  go_with (Some n) c next = next (with_left n c)
  go_with None c next = Halts Spent

  -- goes on after one turn, if one is left
  abbrev pub turn : C → (C → Move C) → Move C
  turn c next = go_with (left_after 1 (h.world c).left) c next

  -- goes on with what an operation at a line gives; its charge is not above the turns left
  abbrev pub with_outcome : Outcome → ℕ → C → (Option Datum → C → Move C) → Move C
  with_outcome (Gives v n) line c next = next v (with_left ((h.world c).left - n) c)
  with_outcome (Fails fault) line c next = stop fault line
  with_outcome Overspends line c next = Halts Spent
