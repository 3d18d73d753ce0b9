-- What the code of a program does, beside what the program means.
use Rattle.std.specs.Prelude.{◌≡◌, ◌↔◌, ℕ, Bool, List}
use Rattle.setl_model_runs.specs.Events.{Event, End}
use Rattle.setl_model_runs.specs.Run.{State, Ends, run}
use Rattle.setl_program.specs.Program.{Program}
use Rattle.setl_program.specs.Formed.{Formed}
use Rattle.setl_model.specs.Core.{Core}
use Rattle.setl_model.specs.Step.{language, test_of}
use Rattle.setl_model.specs.Means.{Means, first}
use Rattle.setl_code.specs.Code.{ReadOne, PrintTop}
use Rattle.setl_code.specs.CodeOf.{code_of}
use Rattle.setl_code.specs.CodeCore.{CodeCore}
use Rattle.setl_code.specs.Machine.{machine}
use Rattle.setl_code.specs.CodeMeans.{CodeMeans, code_first}
use Rattle.setl_code_simulation.specs.States.{SameState, CodeReaches, ReachedAlike, IsNext, ReadsAlike, PrintsAlike}

-- The run of the program ends so, after it wrote and told this.
pub record Ended (p : Program) (input : List ℕ) (turns : ℕ) (based : Bool) (out : List ℕ) (events : List Event) (end : End) : Type 0 where
  pub steps : ℕ
  pub last : State Core
  pub ends : run (language p) (test_of p.modes based) steps (first p input turns) ≡ Ends end last
  pub written : last.out ≡ out
  pub told : last.events ≡ events

-- The run of its code ends so, after it wrote and told this.
pub record CodeEnded (p : Program) (input : List ℕ) (turns : ℕ) (based : Bool) (out : List ℕ) (events : List Event) (end : End) : Type 0 where
  pub steps : ℕ
  pub last : State CodeCore
  pub ends : run (machine (code_of p)) (test_of p.modes based) steps (code_first (code_of p) input turns) ≡ Ends end last
  pub written : last.out ≡ out
  pub told : last.events ≡ events

-- the code of a formed program ends as the program does, with its output and its events, and where the program doesn't
-- end, neither does the code
abbrev pub CodeEndsAlike : Type 0
CodeEndsAlike = (p : Program) → Formed p → (input : List ℕ) (turns : ℕ) (based : Bool) (out : List ℕ) (events : List Event) (end : End) → Ended p input turns based out events end ↔ CodeEnded p input turns based out events end

-- so it means what the program means
abbrev pub CodeMeansAlike : Type 0
CodeMeansAlike = (p : Program) → Formed p → (input : List ℕ) (turns : ℕ) (based : Bool) (out : List ℕ) (end : End) → Means p input turns based out end ↔ CodeMeans (code_of p) p.modes input turns based out end

-- the last states of both are the same: in the body in hand, in the values of all variables, activation by activation,
-- and in the world
abbrev pub CodeEndsInTheSameState : Type 0
CodeEndsInTheSameState = (p : Program) → Formed p → (input : List ℕ) (turns : ℕ) (based : Bool) (out code_out : List ℕ) (end code_end : End) → (meant : Means p input turns based out end) → (done : CodeMeans (code_of p) p.modes input turns based code_out code_end) → SameState (code_of p) done.last meant.last

-- the program reaches each state that its code reaches
abbrev pub CodeReachesTheSameStates : Type 0
CodeReachesTheSameStates = (p : Program) → Formed p → (input : List ℕ) (turns : ℕ) (based : Bool) (s : State CodeCore) → CodeReaches p input turns based s → ReachedAlike p input turns based s

-- where the code reads, the program has that `read` in hand
abbrev pub CodeReadsWhereMeant : Type 0
CodeReadsWhereMeant = (p : Program) → Formed p → (input : List ℕ) (turns : ℕ) (based : Bool) (s : State CodeCore) (line : ℕ) → CodeReaches p input turns based s → IsNext (code_of p) s.core line ReadOne → ReadsAlike p input turns based s line

-- where the code prints, the program has that `print` in hand, with the same text
abbrev pub CodePrintsWhereMeant : Type 0
CodePrintsWhereMeant = (p : Program) → Formed p → (input : List ℕ) (turns : ℕ) (based : Bool) (s : State CodeCore) (line number : ℕ) → CodeReaches p input turns based s → IsNext (code_of p) s.core line (PrintTop number) → PrintsAlike p input turns based s line number
