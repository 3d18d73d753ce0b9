-- What a call of the machine did, seen from outside.
use Rattle.std.specs.Prelude.{◌≡◌, ◌⊎◌, ℕ, ◌<◌, ◌≤◌, ◌-◌, List, [], length, take, ◌++◌, Option, Some}
use Rattle.std.specs.Io.KnownBytes.{Appends, append_known}
use Rattle.setl_io.specs.Faults.{Rose}
use Rattle.setl_io.specs.Sink.{AppendsPart}
use Rattle.setl_model_runs.specs.Events as run
use Rattle.setl_model_runs.specs.Run.{State, Next, Goes, Ends, Test, step}
use Rattle.setl_model_runs.specs.Run as runs
use Rattle.setl_code.specs.Code.{Code, PrintTop, ReadOne}
use Rattle.setl_code.specs.CodeCore.{CodeCore}
use Rattle.setl_code.specs.Machine.{machine, fetch}
use Rattle.setl_machine_control.specs.Control.{ControlState, stood_for}
use Rattle.setl_machine_control.specs.Declaring.{Modes, AreOfMain, IsBare, tested}
use Rattle.setl_machine_control.specs.declared.end.End.{End}
use Rattle.setl_machine_control.specs.declared.end.End.TheVariants as end
use Rattle.setl_machine_control.specs.Answers.{start, said, Answers}

-- the last state's core
abbrev pub last : Next CodeCore → CodeCore
last (Goes s) = s.core
last (Ends e s) = s.core

-- a step that ends a run writes nothing
abbrev pub EndsWriteNothing : Type 0
EndsWriteNothing = (c : Code) (modes : Modes) (k : CodeCore) (e : run.End) (s : State CodeCore) → step (machine c) (tested modes) (start k) ≡ Ends e s → s.out ≡ []

-- a state behind what another one wrote and told
abbrev pub behind : {C : Type 0} → State C → State C → State C
behind a s = record { core = s.core; out = a.out ++ s.out; events = a.events ++ s.events }

abbrev pub all_behind : {C : Type 0} → State C → Next C → Next C
all_behind a (Goes s) = Goes (behind a s)
all_behind a (Ends e s) = Ends e (behind a s)

-- what comes next after a state is what comes next of its core, behind what was written and told
abbrev pub StepsAdd : Type 0
StepsAdd = (c : Code) (test : Test) (a : State CodeCore) → step (machine c) test a ≡ all_behind a (step (machine c) test (start a.core))

-- the same body is at work, with the same in its slots and in those that all bodies see
pub record HasSameSlots (a b : CodeCore) : Type 0 where
  pub globals : b.globals ≡ a.globals
  pub own : b.now.own ≡ a.now.own
  pub body : b.now.body ≡ a.now.body

-- a step that ends a run writes and tells nothing and leaves every slot as it was, where the declared variables are those of
-- the main body, which has no parameters
abbrev pub EndsChangeNothing : Type 0
EndsChangeNothing = (c : Code) (modes : Modes) (a s : State CodeCore) (e : run.End) → AreOfMain modes → IsBare c → step (machine c) (tested modes) a ≡ Ends e s → (s.out ≡ a.out) × (s.events ≡ a.events) × HasSameSlots a.core s.core

-- What is seen of the outside: the bytes held by the output, where it tells them, its count of faults, and that of the
-- input.
pub record Seen : Type 0 where
  pub held : Option (List ℕ)
  pub faults : ℕ
  pub input_faults : ℕ

abbrev pub seen : Option (List ℕ) → ℕ → ℕ → Seen
seen held faults input_faults = record { held = held; faults = faults; input_faults = input_faults }

-- no count rose
abbrev pub NoFault : Seen → Seen → Type 0
NoFault old new = (new.faults ≡ old.faults) × (new.input_faults ≡ old.input_faults)

-- the front of a line, which isn't all of it unless it is empty
abbrev pub AppendsFront : Option (List ℕ) → Option (List ℕ) → List ℕ → Type 0
AppendsFront old new line = (n : ℕ) × (n ≤ length line - 1) × Appends old new (take n line)

-- a `print`, or a `read`, is in hand
abbrev pub AtPrint : Code → CodeCore → Type 0
AtPrint c k = (line : ℕ) × (n : ℕ) × (fetch c k.now.body k.now.at ≡ Some (line, PrintTop n))

abbrev pub AtRead : Code → CodeCore → Type 0
AtRead c k = (line : ℕ) × (fetch c k.now.body k.now.at ≡ Some (line, ReadOne))

-- What one step did to the outside. A print that fails leaves the input as the step does.
abbrev pub Steps : Modes → Next CodeCore → Seen → Seen → CodeCore → End → Type 0
Steps modes n old new k end.ReadFault = Appends old.held new.held [] × Rose old.input_faults new.input_faults × (new.faults ≡ old.faults)
Steps modes n old new k end.WriteFault = AppendsPart old.held new.held (said n) × Rose old.faults new.faults × (new.input_faults ≡ old.input_faults) × (k.world.input ≡ (last n).world.input)
Steps modes n old new k end.NoMemory = AppendsFront old.held new.held (said n) × NoFault old new
Steps modes n old new k e = Answers modes n k e × Appends old.held new.held (said n) × NoFault old new

-- a state that is reached in fewer than n steps from a core, and what the step from it says
pub record Before (modes : Modes) (c : Code) (n : ℕ) (from : CodeCore) (s : State CodeCore) (line : List ℕ) : Type 0 where
  pub after : ℕ
  pub fewer : after < n
  pub reached : runs.run (machine c) (tested modes) after (start from) ≡ Goes s
  pub says : line ≡ said (step (machine c) (tested modes) (start s.core))

-- What at most n steps of a code did, from one core to another, where these declarations count. Where a print failed, the
-- input is what it was at that print.
abbrev pub Ran : Modes → Code → ℕ → CodeCore → Seen → Seen → CodeCore → End → Type 0
Ran modes c n from old new to end.ReadFault =
    (s : State CodeCore) × (line : List ℕ) × Before modes c n from s line × AtRead c s.core × Appends old.held new.held s.out × Rose old.input_faults new.input_faults × (new.faults ≡ old.faults)
Ran modes c n from old new to end.WriteFault =
    (s : State CodeCore) × (line : List ℕ) × Before modes c n from s line × AtPrint c s.core × AppendsPart (append_known old.held s.out) new.held line × Rose old.faults new.faults × (new.input_faults ≡ old.input_faults) × (to.world.input ≡ s.core.world.input)
Ran modes c n from old new to end.NoMemory =
    (s : State CodeCore) × (line : List ℕ) × Before modes c n from s line × (length line ≡ 0 ⊎ AtPrint c s.core) × AppendsFront (append_known old.held s.out) new.held line × NoFault old new
Ran modes c n from old new to e = Steps modes (runs.run (machine c) (tested modes) n (start from)) old new to e

-- Nothing was taken of the input, or a state was reached in fewer than n steps at which a `read` is in hand, and the output
-- has gained all that was written up to it.
abbrev pub ReadsOnly : Modes → Code → ℕ → CodeCore → (held held' left left' : Option (List ℕ)) → Type 0
ReadsOnly modes c n from held held' left left' =
    (left' ≡ left) ⊎ ((s : State CodeCore) × (line : List ℕ) × Before modes c n from s line × AtRead c s.core × (more : List ℕ) × Appends held held' (s.out ++ more))

-- The same of steps that neither read nor write: whatever is seen of the outside, and is still to come from the input.
abbrev pub RanQuietly : Modes → Code → ℕ → CodeCore → ControlState → CodeCore → ControlState → End → Type 0
RanQuietly modes c n old from new to e = (now : Seen) (rest : List ℕ) → Ran modes c n (stood_for old from rest) now now (stood_for new to rest) e
