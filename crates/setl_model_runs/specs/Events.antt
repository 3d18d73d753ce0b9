-- What happens in a run, and how a run ends.
use Rattle.std.specs.Prelude.{ℕ, List, Option}
use Rattle.setl_value.specs.Datum.{Datum}
use Rattle.setl_model_runs.specs.Variable.{Variable}

-- What happened, in the order of the steps. The bytes of a line end with byte 10.
pub data Event : Type 0 where
  Called : (line : ℕ) (name : List ℕ) → Event
  Returned : (name : List ℕ) → Event
  Stored : (line : ℕ) (variable : Variable) (value : Option Datum) → Event
  Printed : (bytes : List ℕ) → Event
  Kept Back Forgot : Event

-- Why a run stops.
pub data StopKind : Type 0 where
  Om Kind Zero Range Wide Deep : StopKind
  -- the input has no denotation
  Form : StopKind
  -- a value doesn't fit the declaration of this variable
  Unfit : Variable → StopKind
  -- `fail` or `succeed` with nothing kept
  Nothing : StopKind

-- How a run ends. No accepted program is stuck.
pub data End : Type 0 where
  Done : End
  Stopped : StopKind → (line : ℕ) → End
  Spent : End
  Stuck : End
