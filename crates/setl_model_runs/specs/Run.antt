-- Runs over any kind of core: what a step writes, tells, changes and stores.
use Rattle.std.specs.Prelude.{ℕ, zero, suc, Bool, true, false, List, [], ◌∷◌, ◌++◌, Option}
use Rattle.setl_value.specs.Datum.{Datum}
use Rattle.setl_model_runs.specs.Variable.{Variable}
use Rattle.setl_model_runs.specs.Events.{Event, Stored, Unfit, End, Stopped}

-- a value, or `om`, for a variable
abbrev pub Store : Type 0
Store = Variable × Option Datum

-- What one step does. Either it writes bytes, tells events, goes to a new core and then makes its stores in their
-- order, all at one line; or it ends the run.
pub data Move (C : Type 0) : Type 0 where
  Moves : (said : List ℕ) (told : List Event) (to : C) (line : ℕ) (stores : List Store) → Move C
  Halts : End → Move C

-- A state of a run: the core, on which the next step rests, and what was written and told so far.
pub record State (C : Type 0) : Type 0 where
  pub core : C
  pub out : List ℕ
  pub events : List Event

-- What comes after a state: a state, or an end with the last state.
pub data Next (C : Type 0) : Type 0 where
  Goes : State C → Next C
  Ends : End → State C → Next C

-- How a core moves, and how it takes a value for a variable.
pub record Machine (C : Type 0) : Type 0 where
  pub move : C → Move C
  pub write : Variable → Option Datum → C → C

-- which values each variable takes
abbrev pub Test : Type 0
Test = Variable → Option Datum → Bool

-- the state after one store, which is told
abbrev pub stored : {C : Type 0} → Machine C → ℕ → Store → State C → State C
stored m line x s = record { core = m.write x.0 x.1 s.core; out = s.out; events = s.events ++ Stored line x.0 x.1 ∷ [] }

-- what comes next where the value fits, else the end at this state
abbrev pub if_fits : {C : Type 0} → Bool → Next C → End → State C → Next C
if_fits true next e s = next
if_fits false next e s = Ends e s

-- the stores in their order, up to the first whose value doesn't fit; there the variable keeps what it held
abbrev pub store_all : {C : Type 0} → Machine C → Test → ℕ → List Store → State C → Next C
store_all m test line [] s = Goes s
store_all m test line (x ∷ xs) s = if_fits (test x.0 x.1) (store_all m test line xs (stored m line x s)) (Stopped (Unfit x.0) line) s

-- what comes after a state by a move
abbrev pub settle : {C : Type 0} → Machine C → Test → State C → Move C → Next C
settle m test s (Moves said told to line xs) = store_all m test line xs (record { core = to; out = s.out ++ said; events = s.events ++ told })
settle m test s (Halts e) = Ends e s

-- one step
abbrev pub step : {C : Type 0} → Machine C → Test → State C → Next C
step m test s = settle m test s (m.move s.core)

-- goes on from a state, and stays at an end
abbrev pub and_then : {C : Type 0} → Next C → (State C → Next C) → Next C
and_then (Goes s) k = k s
and_then (Ends e s) k = Ends e s

-- at most n steps
abbrev pub run : {C : Type 0} → Machine C → Test → ℕ → State C → Next C
run m test zero s = Goes s
run m test (suc n) s = and_then (step m test s) (run m test n)
