-- What a run has written at some of its states, of a program and of code.
use Rattle.std.specs.Prelude.{◌≡◌, ℕ, Bool, List, [], Option, Some}
use Rattle.setl_value.specs.Datum.{Datum}
use Rattle.setl_text.specs.Texts.{print_line}
use Rattle.setl_model.specs.Core.{Core}
use Rattle.setl_model.specs.Means.{Reaches, HasPrint, HasRead}
use Rattle.setl_model.specs.Step.{test_of}
use Rattle.setl_model_runs.specs.Run.{State, Goes, run}
use Rattle.setl_program.specs.Program.{Program}
use Rattle.setl_code.specs.Code.{Code, PrintTop, ReadOne}
use Rattle.setl_code.specs.CodeCore.{Operand, Pops, popped, CodeCore}
use Rattle.setl_code.specs.CodeMeans.{code_first}
use Rattle.setl_code.specs.Machine.{machine, fetch}
use Rattle.setl_model_runs.specs.Variable.{Variable}
use Rattle.setl_modes.specs.Modes.{Mode}

-- ---- programs

-- the run comes to a state with this output
pub record AtState (program : Program) (input : List ℕ) (turns : ℕ) (based : Bool) (out : List ℕ) : Type 0 where
  pub state : State Core
  pub reached : Reaches program input turns based state
  pub printed : out ≡ state.out

-- the run has written this when a `print` of that line is in hand
pub record AtPrint (program : Program) (input : List ℕ) (turns : ℕ) (based : Bool) (out line : List ℕ) : Type 0 where
  pub state : State Core
  pub reached : Reaches program input turns based state
  pub printed : out ≡ state.out
  pub in_hand : HasPrint program state line

-- the run has written this when a `read` is in hand
pub record AtRead (program : Program) (input : List ℕ) (turns : ℕ) (based : Bool) (out : List ℕ) : Type 0 where
  pub state : State Core
  pub reached : Reaches program input turns based state
  pub printed : out ≡ state.out
  pub in_hand : HasRead state

-- ---- code

-- steps of a code lead from its first state to this one, where these variables are declared
abbrev pub CodeReaches : Code → List (Variable × Mode) → List ℕ → ℕ → Bool → State CodeCore → Type 0
CodeReaches c modes input turns based s = (n : ℕ) × (run (machine c) (test_of modes based) n (code_first c input turns) ≡ Goes s)

-- a `print` with this line is in hand
pub record CodePrints (c : Code) (k : CodeCore) (line : List ℕ) : Type 0 where
  pub place : ℕ
  pub count : ℕ
  pub in_hand : fetch c k.now.body k.now.at ≡ Some (place, PrintTop count)
  pub values : List (Option Datum)
  pub others : List Operand
  pub operands : popped count [] k.now.operands ≡ Pops values others
  pub prints : line ≡ print_line values

-- a `read` is in hand
pub record CodeReads (c : Code) (k : CodeCore) : Type 0 where
  pub place : ℕ
  pub in_hand : fetch c k.now.body k.now.at ≡ Some (place, ReadOne)

pub record CodeAtState (c : Code) (modes : List (Variable × Mode)) (input : List ℕ) (turns : ℕ) (based : Bool) (out : List ℕ) : Type 0 where
  pub state : State CodeCore
  pub reached : CodeReaches c modes input turns based state
  pub printed : out ≡ state.out

pub record CodeAtPrint (c : Code) (modes : List (Variable × Mode)) (input : List ℕ) (turns : ℕ) (based : Bool) (out line : List ℕ) : Type 0 where
  pub state : State CodeCore
  pub reached : CodeReaches c modes input turns based state
  pub printed : out ≡ state.out
  pub in_hand : CodePrints c state.core line

pub record CodeAtRead (c : Code) (modes : List (Variable × Mode)) (input : List ℕ) (turns : ℕ) (based : Bool) (out : List ℕ) : Type 0 where
  pub state : State CodeCore
  pub reached : CodeReaches c modes input turns based state
  pub printed : out ≡ state.out
  pub in_hand : CodeReads c state.core
