-- What sound code gives, and that the code of programs is sound.
use Rattle.std.specs.Prelude.{◌≡◌, ℕ, Bool, List}
use Rattle.setl_model_runs.specs.Variable.{Variable}
use Rattle.setl_model_runs.specs.Events.{End, Done, Stopped, Spent, Stuck}
use Rattle.setl_model_runs.specs.Run.{State, Next, Goes, Ends, step, run}
use Rattle.setl_modes.specs.Modes.{Mode}
use Rattle.setl_program.specs.Program.{Program}
use Rattle.setl_program.specs.Formed.{Formed}
use Rattle.setl_model.specs.Step.{test_of}
use Rattle.setl_code.specs.Code.{Code}
use Rattle.setl_code.specs.CodeOf.{code_of}
use Rattle.setl_code.specs.CodeCore.{CodeCore}
use Rattle.setl_code.specs.Machine.{machine}
use Rattle.setl_code.specs.CodeMeans.{code_first, CodeMeans}
use Rattle.setl_code.specs.Sound.{Sound, Closed}
use Rattle.setl_code_soundness.specs.Named.{Named}
use Rattle.setl_code.specs.Ready.{Ready, Finds}

-- ---- sound code

-- the first state is ready
abbrev pub StartsReady : Type 0
StartsReady = (c : Code) (declared : List Variable) → Sound c declared → (input : List ℕ) (turns : ℕ) → Ready c declared (code_first c input turns).core

abbrev pub IsNotStuck : End → Type 0
IsNotStuck Done = Unit {0}
IsNotStuck (Stopped k line) = Unit {0}
IsNotStuck Spent = Unit {0}
IsNotStuck Stuck = ⊥

-- a state that comes next is ready again, and an end isn't stuck
abbrev pub GoesOn : Code → List Variable → Next CodeCore → Type 0
GoesOn c declared (Goes s) = Ready c declared s.core
GoesOn c declared (Ends e s) = IsNotStuck e

abbrev pub StaysReady : Type 0
StaysReady = (c : Code) (declared : List Variable) (modes : List (Variable × Mode)) (based : Bool) (s : State CodeCore) → Ready c declared s.core → GoesOn c declared (step (machine c) (test_of modes based) s)

-- each state that a run of sound code reaches is ready
abbrev pub ReachedAreReady : Type 0
ReachedAreReady = (c : Code) (declared : List Variable) → Sound c declared → (modes : List (Variable × Mode)) (input : List ℕ) (turns : ℕ) (based : Bool) (n : ℕ) (s : State CodeCore) → run (machine c) (test_of modes based) n (code_first c input turns) ≡ Goes s → Ready c declared s.core

-- in a ready state the instruction in hand finds the operands that it takes, and reads no taken variable
abbrev pub ReadyFinds : Type 0
ReadyFinds = (c : Code) (declared : List Variable) (k : CodeCore) → Ready c declared k → Finds c k

-- What a run of code wrote and how it ended.
pub record CodeEnding (c : Code) (modes : List (Variable × Mode)) (input : List ℕ) (turns : ℕ) (based : Bool) : Type 0 where
  pub out : List ℕ
  pub end : End
  pub means : CodeMeans c modes input turns based out end

-- every run of sound code ends
abbrev pub EveryCodeRunEnds : Type 0
EveryCodeRunEnds = (c : Code) (declared : List Variable) → Sound c declared → (modes : List (Variable × Mode)) (input : List ℕ) (turns : ℕ) (based : Bool) → CodeEnding c modes input turns based

-- and none is stuck
abbrev pub NoCodeIsStuck : Type 0
NoCodeIsStuck = (c : Code) (declared : List Variable) → Sound c declared → (modes : List (Variable × Mode)) (input : List ℕ) (turns : ℕ) (based : Bool) (out : List ℕ) → CodeMeans c modes input turns based out Stuck → ⊥

-- ---- the code of programs

-- the code of a formed program is sound, whichever variables are declared
abbrev pub CodeOfProgramsIsSound : Type 0
CodeOfProgramsIsSound = (p : Program) → Formed p → (declared : List Variable) → Sound (code_of p) declared

-- and where the program names what is there, so does its code
abbrev pub CodeOfProgramsIsClosed : Type 0
CodeOfProgramsIsClosed = (p : Program) → Formed p → Named p → Closed (code_of p)
