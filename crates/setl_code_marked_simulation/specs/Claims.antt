-- What the marked code of a program does, beside what the program means.
use Rattle.std.specs.Prelude.{◌≡◌, ◌↔◌, ℕ, Bool, List, [], Option}
use Rattle.setl_value.specs.Datum.{Datum}
use Rattle.setl_model_runs.specs.Variable.{Variable}
use Rattle.setl_model_runs.specs.Events.{Event, End}
use Rattle.setl_model_runs.specs.Run.{State, Goes, Ends, run}
use Rattle.setl_text.specs.Texts.{print_line}
use Rattle.setl_program.specs.Program.{Program}
use Rattle.setl_program.specs.Formed.{Formed}
use Rattle.setl_model.specs.Core.{Core}
use Rattle.setl_model.specs.Step.{test_of}
use Rattle.setl_model.specs.Means.{Means, Reaches, HasPrint, HasRead}
use Rattle.setl_code.specs.Code.{Code, ReadOne, PrintTop}
use Rattle.setl_code.specs.CodeOf.{code_of}
use Rattle.setl_code.specs.CodeCore.{Operand, Pops, popped, CodeCore}
use Rattle.setl_code.specs.Machine.{machine}
use Rattle.setl_code.specs.CodeMeans.{code_first, CodeMeans}
use Rattle.setl_code.specs.Sound.{Sound}
use Rattle.setl_code_simulation.specs.Claims.{Ended}
use Rattle.setl_code_simulation.specs.States.{IsNext}
use Rattle.setl_code_marked.specs.Marked.{Marked}
use Rattle.setl_code_marked_simulation.specs.States.{SameState}

-- something holds of the marked code of each formed program
abbrev pub OfMarked : (Program → List Variable → Code → Type 0) → Type 0
OfMarked P = (p : Program) → Formed p → (declared : List Variable) (m : Code) → Marked declared (code_of p) m → P p declared m

-- it is sound
abbrev pub MarkedOfProgramsIsSound : Type 0
MarkedOfProgramsIsSound = OfMarked (λ p declared m. Sound m declared)

-- The run of a code ends so, after it wrote and told this.
pub record RunEnds (c : Code) (p : Program) (input : List ℕ) (turns : ℕ) (based : Bool) (out : List ℕ) (events : List Event) (end : End) : Type 0 where
  pub steps : ℕ
  pub last : State CodeCore
  pub ends : run (machine c) (test_of p.modes based) steps (code_first c input turns) ≡ Ends end last
  pub written : last.out ≡ out
  pub told : last.events ≡ events

-- it ends as the program does, with its output and its events, and so it means what the program means
abbrev pub MarkedEndsAlike : Type 0
MarkedEndsAlike = OfMarked (λ p declared m. (input : List ℕ) (turns : ℕ) (based : Bool) (out : List ℕ) (events : List Event) (end : End) → Ended p input turns based out events end ↔ RunEnds m p input turns based out events end)

abbrev pub MarkedMeansWhatTheProgramMeans : Type 0
MarkedMeansWhatTheProgramMeans = OfMarked (λ p declared m. (input : List ℕ) (turns : ℕ) (based : Bool) (out : List ℕ) (end : End) → Means p input turns based out end ↔ CodeMeans m p.modes input turns based out end)

-- the last states of both are the same but for what was taken
abbrev pub MarkedEndsInTheSameState : Type 0
MarkedEndsInTheSameState = OfMarked (λ p declared m. (input : List ℕ) (turns : ℕ) (based : Bool) (out code_out : List ℕ) (end code_end : End) → (meant : Means p input turns based out end) → (done : CodeMeans m p.modes input turns based code_out code_end) → SameState declared (code_of p) done.last meant.last)

-- the marked code comes to this state
abbrev pub MarkedReaches : Code → Program → List ℕ → ℕ → Bool → State CodeCore → Type 0
MarkedReaches m p input turns based s = (n : ℕ) × (run (machine m) (test_of p.modes based) n (code_first m input turns) ≡ Goes s)

-- the program comes to a state that is the same but for what was taken
pub record ReachedAlike (declared : List Variable) (p : Program) (input : List ℕ) (turns : ℕ) (based : Bool) (s : State CodeCore) : Type 0 where
  pub state : State Core
  pub reached : Reaches p input turns based state
  pub same : SameState declared (code_of p) s state

abbrev pub MarkedReachesTheSameStates : Type 0
MarkedReachesTheSameStates = OfMarked (λ p declared m. (input : List ℕ) (turns : ℕ) (based : Bool) (s : State CodeCore) → MarkedReaches m p input turns based s → ReachedAlike declared p input turns based s)

-- where it reads, the program has a `read` of this line in hand
pub record ReadsAlike (declared : List Variable) (p : Program) (input : List ℕ) (turns : ℕ) (based : Bool) (s : State CodeCore) (line : ℕ) : Type 0 where
  pub there : ReachedAlike declared p input turns based s
  pub in_hand : HasRead there.state
  pub line_same : in_hand.line ≡ line

abbrev pub MarkedReadsWhereMeant : Type 0
MarkedReadsWhereMeant = OfMarked (λ p declared m. (input : List ℕ) (turns : ℕ) (based : Bool) (s : State CodeCore) (line : ℕ) → MarkedReaches m p input turns based s → IsNext m s.core line ReadOne → ReadsAlike declared p input turns based s line)

-- where it prints, the program has a `print` in hand with the text of the operands
pub record PrintsAlike (declared : List Variable) (p : Program) (input : List ℕ) (turns : ℕ) (based : Bool) (s : State CodeCore) (number : ℕ) : Type 0 where
  pub there : ReachedAlike declared p input turns based s
  pub values : List (Option Datum)
  pub others : List Operand
  pub operands : popped number [] s.core.now.operands ≡ Pops values others
  pub in_hand : HasPrint p there.state (print_line values)

abbrev pub MarkedPrintsWhereMeant : Type 0
MarkedPrintsWhereMeant = OfMarked (λ p declared m. (input : List ℕ) (turns : ℕ) (based : Bool) (s : State CodeCore) (line number : ℕ) → MarkedReaches m p input turns based s → IsNext m s.core line (PrintTop number) → PrintsAlike declared p input turns based s number)
