-- The machine over an input and an output in memory, beside the run of the code.
use Rattle.std.specs.Prelude.{◌≡◌, ℕ, Bool, true, false, List, [], ◌++◌, map, Result, Ok, Err, None, alloc_error}
use Rattle.std.specs.Global.{Vec}
use Rattle.std.specs.declared.alloc.AllocError.{AllocError}
use Rattle.setl_model_runs.specs.Events as run
use Rattle.setl_model_runs.specs.Run.{State, Next, Goes, Ends, step}
use Rattle.setl_model_runs.specs.Run as runs
use Rattle.setl_watch.specs.Notices.{noticed}
use Rattle.setl_watch.specs.code.NoticeOf.{notice_of}
use Rattle.setl_watch.specs.declared.event.Event.{Event}
use Rattle.setl_code.specs.CodeCore.{CodeCore}
use Rattle.setl_code.specs.CodeMeans.{code_first}
use Rattle.setl_code.specs.Machine.{machine}
use Rattle.setl_code.specs.Plain.{plain_code}
use Rattle.setl_store.specs.Standing.{variables, variables_in}
use Rattle.setl_machine.specs.Outcome.{HasSameSlots}
use Rattle.setl_machine_control.specs.Answers.{kind_of}
use Rattle.setl_machine_control.specs.Control.{stood_for}
use Rattle.setl_machine_control.specs.Declaring.{Modes, DeclarationTable, modes_of, tested, Serves}
use Rattle.setl_machine_control.specs.declared.end.End.{End}
use Rattle.setl_machine_control.specs.declared.end.End.TheVariants as end
use Rattle.setl_debug_machine.specs.declared.machine.Machine.{Machine}
use Rattle.setl_debug_machine.specs.declared.machine.Stepped.{Stepped}
use Rattle.setl_debug_machine.specs.declared.machine.Stepped.TheVariants.{Went, Ended}
use Rattle.setl_debug_machine.specs.declared.follower.Ending.{Ending}

-- ---- states of the run

-- one step of the run
abbrev pub next_of : DeclarationTable → State CodeCore → Next CodeCore
next_of d s = step (machine (plain_code d.code)) (tested (modes_of d)) s

-- so many steps from the first state, with so many turns
abbrev pub code_run : DeclarationTable → List ℕ → (turns steps : ℕ) → Next CodeCore
code_run d input turns steps = runs.run (machine (plain_code d.code)) (tested (modes_of d)) steps (code_first (plain_code d.code) input turns)

-- ---- the machine

-- what is still to come of an input behind what a reader keeps: nothing behind its end
abbrev pub to_come : (ended : Bool) → List ℕ → List ℕ
to_come true left = []
to_come false left = left

-- the core that it stands for
abbrev pub core_of : Machine → CodeCore
core_of m = stood_for m.store.core m.control (to_come m.control.reader.ended m.input)

-- it stands at a state of a run
pub record StandsAt (d : DeclarationTable) (s : State CodeCore) (m : Machine) : Type 0 where
  pub serves : Serves d m.store
  pub no_fault : m.control.reader.fault ≡ None
  pub core : s.core ≡ core_of m
  pub out : s.out ≡ m.output

-- it stands at the state of the run after so many steps
pub record StandsAfter (d : DeclarationTable) (input : List ℕ) (turns steps : ℕ) (m : Machine) : Type 0 where
  pub at : State CodeCore
  pub reached : code_run d input turns steps ≡ Goes at
  pub stands : StandsAt d at m

-- how the run ended by an answer of the machine
abbrev pub end_by : Modes → End → run.End
end_by modes end.Done = run.Done
end_by modes (end.Stopped why line) = run.Stopped (kind_of modes why) line
end_by modes end.Spent = run.Spent
end_by modes e = run.Stuck

-- what a step did, by what it told
abbrev pub stepped_by : Result (Vec Event) End → Result Stepped AllocError
stepped_by (Ok events) = Ok (Went events)
stepped_by (Err end.Done) = Ok (Ended end.Done)
stepped_by (Err (end.Stopped why line)) = Ok (Ended (end.Stopped why line))
stepped_by (Err end.Spent) = Ok (Ended end.Spent)
stepped_by (Err end.Stuck) = Ok (Ended end.Stuck)
stepped_by (Err end.Paused) = Err alloc_error
stepped_by (Err end.ReadFault) = Err alloc_error
stepped_by (Err end.WriteFault) = Err alloc_error
stepped_by (Err end.NoMemory) = Err alloc_error

-- From a state it went a step on, and these are the events; or that step ends the run so, and the machine has the slots of
-- the last state.
abbrev pub StepsTo : DeclarationTable → State CodeCore → Machine → Stepped → Type 0
StepsTo d s m (Went events) = (u : State CodeCore) × (next_of d s ≡ Goes u) × StandsAt d u m × (map noticed u.events ≡ map noticed s.events ++ map notice_of events.items)
StepsTo d s m (Ended e) = (u : State CodeCore) × (next_of d s ≡ Ends (end_by (modes_of d) e) u) × HasSameSlots u.core m.store.core

-- something was written behind what there was
abbrev pub Writes : (old new : List ℕ) → Type 0
Writes old new = (more : List ℕ) × (new ≡ old ++ more)

-- The run of the code with so many turns ends so in a state whose slots this core has, and these stand for the variables of
-- this body.
pub record EndsIn (d : DeclarationTable) (input : List ℕ) (turns : ℕ) (ending : Ending) (k : CodeCore) : Type 0 where
  pub steps : ℕ
  pub last : State CodeCore
  pub ends : code_run d input turns steps ≡ Ends (end_by (modes_of d) ending.end) last
  pub same : HasSameSlots last.core k
  pub body : ending.body ≡ last.core.now.body
  pub names : variables last.core ≡ variables_in (plain_code d.code) ending.body
