-- What the events of a run make of the pieces that an output was handed.
use Rattle.std.specs.Prelude.{ℕ, List, Option}
use Rattle.setl_io.specs.Faults.{more}
use Rattle.setl_model_runs.specs.Events.{Event}
use Rattle.setl_model_runs.specs.Run.{Next}
use Rattle.setl_code.specs.Code.{Code}
use Rattle.setl_code.specs.CodeCore.{CodeCore}
use Rattle.setl_machine_control.specs.Declaring.{Modes}
use Rattle.setl_machine_control.specs.declared.end.End.{End}
use Rattle.setl_machine.specs.Hearing.{Makes, RunMakes}
pub use Rattle.setl_machine.specs.Prints.{prints}

-- a count of pieces after each line that events print is handed over as one, and nothing else is
abbrev pub pieces_by : List Event → Option ℕ → Option ℕ
pieces_by es count = more (prints es) count

-- What comes next, a step or a run, handed the output each line that it prints as one piece, and nothing else; of one that ends in
-- a fault or for want of memory nothing is said.
abbrev pub NextWrites : Next CodeCore → (pieces pieces' : Option ℕ) → End → Type 0
NextWrites x pieces pieces' e = Makes pieces_by x pieces pieces' e

-- so did at most so many steps of a code from this core
abbrev pub RunWrites : Modes → Code → ℕ → CodeCore → (pieces pieces' : Option ℕ) → End → Type 0
RunWrites modes c n from pieces pieces' e = RunMakes pieces_by modes c n from pieces pieces' e
