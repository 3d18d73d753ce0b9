-- What a run told, and what watchers heard of it.
use Rattle.std.specs.Prelude.{◌≡◌, ℕ, List, map, Result, Ok, Err, Some}
use Rattle.std.specs.Global.{Vec}
use Rattle.setl_model_runs.specs.Events as run
use Rattle.setl_model_runs.specs.Run.{Next, Goes, Ends}
use Rattle.setl_model_runs.specs.Run as runs
use Rattle.setl_watch.specs.Notices.{noticed}
use Rattle.setl_watch.specs.code.NoticeOf.{notice_of}
use Rattle.setl_watch.specs.Watches.{Watched, told_all}
use Rattle.setl_watch.specs.declared.event.Event.{Event}
use Rattle.setl_code.specs.Code.{Code, Instr}
use Rattle.setl_code.specs.CodeCore.{CodeCore}
use Rattle.setl_code.specs.Machine.{machine, fetch}
use Rattle.setl_code.specs.Plain.{plain_code}
use Rattle.setl_code_events.specs.Told.{events_of}
use Rattle.setl_store.specs.Standing.{Standing}
use Rattle.setl_machine_control.specs.Control.{ControlState, stood_for}
use Rattle.setl_machine_control.specs.Declaring.{Modes, tested}
use Rattle.setl_machine_control.specs.Answers.{start, next_of, Quiet}
use Rattle.setl_machine_control.specs.declared.end.End.{End}
use Rattle.setl_machine_control.specs.declared.end.End.TheVariants as end

-- what was told: the events of the last state
abbrev pub events_told : Next CodeCore → List run.Event
events_told (Goes s) = s.events
events_told (Ends e s) = s.events

-- What comes next, a step or a run, made of something what its events make of it; of one that ends in a fault or for want of memory
-- nothing is said.
abbrev pub Makes : {S : Type 0} → (List run.Event → S → S) → Next CodeCore → (old new : S) → End → Type 0
Makes after x old new end.ReadFault = Unit {0}
Makes after x old new end.WriteFault = Unit {0}
Makes after x old new end.NoMemory = Unit {0}
Makes after x old new e = new ≡ after (events_told x) old

-- so did at most so many steps of a code from this core
abbrev pub RunMakes : {S : Type 0} → (List run.Event → S → S) → Modes → Code → ℕ → CodeCore → (old new : S) → End → Type 0
RunMakes after modes c n from old new e = Makes after (runs.run (machine c) (tested modes) n (start from)) old new e

-- Watchers heard at most n steps of a code that ended so: they were told its events, each once and in order. After a fault
-- and want of memory nothing is known of them.
abbrev pub Hears : Modes → Code → ℕ → CodeCore → (old new : Watched) → End → Type 0
Hears modes c n from old new e = RunMakes told_all modes c n from old new e

-- ---- a step that is told

-- how it ended: where it goes on it has its events
abbrev pub ended : {T : Type 0} → Result T End → End
ended (Ok events) = end.Paused
ended (Err e) = e

-- these are the events of an instruction of a line, by the cores before and after it
abbrev pub Tells : Code → ℕ → Instr → (before after : CodeCore) → List Event → Type 0
Tells c line i k d es = map notice_of es ≡ map noticed (events_of c line i k d)

-- an instruction went on, and these are its events, whatever is still to come from the input; or it ended the run
abbrev pub TellsOf : Standing → ControlState → ℕ → Instr → Standing → ControlState → Result (Vec Event) End → Type 0
TellsOf old from line i new to (Ok events) =
    (new.code ≡ old.code) × ((rest rest' : List ℕ) → Tells (plain_code old.code) line i (stood_for old.core from rest) (stood_for new.core to rest') events.items)
TellsOf old from line i new to (Err e) = e ≡ end.Paused → ⊥

-- what one that neither reads nor writes did, where these declarations count, and its events
abbrev pub DoesTelling : Modes → Standing → ControlState → ℕ → Instr → Standing → ControlState → Result (Vec Event) End → Type 0
DoesTelling modes old from line i new to r =
    ((rest : List ℕ) → Quiet modes (next_of modes (plain_code old.code) line i (stood_for old.core from rest)) (stood_for new.core to rest) (ended r))
    × TellsOf old from line i new to r

-- the same of the events of the step in hand
abbrev pub TellsInHand : Standing → ControlState → Standing → ControlState → Result (Vec Event) End → Type 0
TellsInHand old from new to r =
    (line : ℕ) (i : Instr) → fetch (plain_code old.code) old.core.now.body old.core.now.at ≡ Some (line, i) → TellsOf old from line i new to r
