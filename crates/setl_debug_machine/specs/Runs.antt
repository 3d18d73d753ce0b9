-- What contracts see of a run that is looked at.
use Rattle.std.specs.Prelude.{ℕ, Bool, List, Option}
use Rattle.setl_program.specs.declared.program.Program.{Program}
use Rattle.setl_program.specs.code.Plain.{plain_program}
use Rattle.setl_debug_machine.specs.Screens.{PlainRun}
use Rattle.setl_debug_target.specs.Screens.{Stand}

-- what is run, and where the run stands
pub record RunState : Type 0 where
  pub program : Program
  pub input : List ℕ
  pub based : Bool
  pub stand : Option Stand

-- what is run as plain data
abbrev pub run_of : RunState → PlainRun
run_of s = record { program = plain_program s.program; input = s.input; based = s.based }
