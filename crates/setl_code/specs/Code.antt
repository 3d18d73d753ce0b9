-- Stack code as plain data.
use Rattle.std.specs.Prelude.{ℕ, List, Option}
use Rattle.setl_value.specs.Datum.{Datum}
use Rattle.setl_model_runs.specs.Variable.{Variable}
use Rattle.setl_operators_table.specs.declared.Operator.{Operator}
use Rattle.setl_program.specs.declared.kinds.Collection.{Collection}
use Rattle.setl_program.specs.declared.kinds.Connective.{Connective}
use Rattle.setl_program.specs.declared.kinds.Taking.{Taking}
use Rattle.setl_program.specs.Program.{Begin, Parameter}

-- How a selector of an update is written: `(e)` or `{e}`.
pub data Bracket : Type 0 where
  InRound InBrace : Bracket

-- What an update does to the part at its selectors.
pub data Alteration : Type 0 where
  Putting : Alteration
  Combining : Operator → Alteration
  TakingOut : Taking → Alteration

-- A `target` is the number of a step of the same body.
pub data Instr : Type 0 where
  -- an integer, a string, a truth value, or `om`
  Push : Option Datum → Instr
  PushAtom PushEof : Instr
  -- `load x`, `take x` and `store x`
  Load Take StoreIn : Variable → Instr
  -- an operator over so many operands; the enumerations and ranges are among them
  Operate : Operator → (operands : ℕ) → Instr
  -- `put x K`, `OP x K`, `from x K`, `fromb x K` and `frome x K`
  Alter : Alteration → Variable → List Bracket → Instr
  -- `and L`, `or L` and `impl L`
  Decides : Connective → (target : ℕ) → Instr
  -- `bool`
  TestBool : Instr
  Unless Jump : (target : ℕ) → Instr
  DropTop DupTop : Instr
  -- `parts n`
  PartsOf : ℕ → Instr
  -- `begin ..` over so many operands
  BeginOver : Begin → (operands : ℕ) → Instr
  NextOr : (target : ℕ) → Instr
  -- `newset` and `newtuple`
  BeginOf : Collection → Instr
  -- `add k` and `leave k`
  AddBelow LeaveAll : (iterators : ℕ) → Instr
  PayRound : Instr
  -- a body by its number
  CallBody : ℕ → Instr
  ReturnTop KeepAll GoBack ForgetKept : Instr
  PrintTop : ℕ → Instr
  ReadOne StopRun : Instr

-- A step: its line in the source, and its instruction.
abbrev pub Step : Type 0
Step = ℕ × Instr

-- The code of the main program or of a procedure, with its variables: the parameters, and behind them the names in
-- order. The place of a variable among all of these is its slot.
pub record Body : Type 0 where
  pub name : List ℕ
  pub parameters : List Parameter
  pub names : List Variable
  pub steps : List Step

-- The code of a program: the variables that all bodies see, by slots, and the bodies, the main program's first.
pub record Code : Type 0 where
  pub vars : List Variable
  pub bodies : List Body
