-- What the events of a run make of the bases that a store tells.
use Rattle.std.specs.Prelude.{◌≡◌, ℕ, suc, Bool, true, false, List, [], ◌∷◌, Some, None, Result, Ok, Err}
use Rattle.setl_model_runs.specs.Events.{Event}
use Rattle.setl_model_runs.specs.Run.{Next}
use Rattle.setl_model.specs.Entered.{Base, with_event}
use Rattle.setl_code.specs.Code.{Code, Instr}
use Rattle.setl_code.specs.CodeCore.{CodeCore}
use Rattle.setl_code.specs.Machine.{fetch}
use Rattle.setl_code_events.specs.Told.{events_of}
use Rattle.setl_machine_control.specs.Declaring.{Modes}
use Rattle.setl_machine_control.specs.declared.end.End.{End}
use Rattle.setl_machine_control.specs.declared.end.End.TheVariants as end
use Rattle.setl_machine.specs.Hearing.{Makes, RunMakes}

-- what an event makes of each base, from the n-th on
abbrev pub each_with : Modes → ℕ → List Base → Event → List Base
each_with modes n [] e = []
each_with modes n (b ∷ bs) e = with_event modes n b e ∷ each_with modes (suc n) bs e

abbrev pub bases_after : Modes → List Base → List Event → List Base
bases_after modes bs [] = bs
bases_after modes bs (e ∷ es) = bases_after modes (each_with modes 0 bs e) es

-- Where the code goes on the bases are as the events of an instruction leave them, by the cores before and after it; at an end they
-- are as before. After a failed `print` and want of memory nothing is known of them.
abbrev pub Gains : Modes → Code → ℕ → Instr → (k d : CodeCore) → (bs cs : List Base) → End → Type 0
Gains modes c line i k d bs cs end.Paused = cs ≡ bases_after modes bs (events_of c line i k d)
Gains modes c line i k d bs cs end.WriteFault = Unit {0}
Gains modes c line i k d bs cs end.NoMemory = Unit {0}
Gains modes c line i k d bs cs e = cs ≡ bs

-- whether the run goes on or ends, they are as before
abbrev pub StayBases : (bs cs : List Base) → Result Bool End → Type 0
StayBases bs cs (Err end.NoMemory) = Unit {0}
StayBases bs cs r = cs ≡ bs

-- an instruction went on or ended so, or was left and they are as before
abbrev pub GainsOrLeaves : Modes → Code → ℕ → Instr → (k d : CodeCore) → (bs cs : List Base) → Result Bool End → Type 0
GainsOrLeaves modes c line i k d bs cs (Ok true) = Gains modes c line i k d bs cs end.Paused
GainsOrLeaves modes c line i k d bs cs (Ok false) = cs ≡ bs
GainsOrLeaves modes c line i k d bs cs (Err e) = Gains modes c line i k d bs cs e

-- the same of the events first
abbrev pub bases_by : Modes → List Event → List Base → List Base
bases_by modes es bs = bases_after modes bs es

-- what comes next, a step or a run, made them what its events leave; after a fault and want of memory nothing is known of them
abbrev pub NextGains : Modes → Next CodeCore → (bs cs : List Base) → End → Type 0
NextGains modes x bs cs e = Makes (bases_by modes) x bs cs e

-- so did at most so many steps of a code from this core
abbrev pub RunGains : Modes → Code → ℕ → CodeCore → (bs cs : List Base) → End → Type 0
RunGains modes c n from bs cs e = RunMakes (bases_by modes) modes c n from bs cs e

-- how a step ended, as an answer
abbrev pub as_answer : End → Result Bool End
as_answer end.Paused = Ok true
as_answer e = Err e

-- What the instruction in hand made of them, by the cores before and after it; where none is, they are as before.
abbrev pub HandGains : Modes → Code → (k d : CodeCore) → (bs cs : List Base) → Result Bool End → Type 0
HandGains modes c k d bs cs r =
    ((line : ℕ) (i : Instr) → fetch c k.now.body k.now.at ≡ Some (line, i) → GainsOrLeaves modes c line i k d bs cs r)
    × (fetch c k.now.body k.now.at ≡ None → StayBases bs cs r)
