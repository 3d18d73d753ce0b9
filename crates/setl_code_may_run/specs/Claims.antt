-- What is shown of the code of programs.
use Rattle.std.specs.Prelude.{◌≡◌}
use Rattle.setl_program.specs.Program.{Program}
use Rattle.setl_program.specs.Placed.{Placed}
use Rattle.setl_code.specs.declared.code.Code.{Code}
use Rattle.setl_code.specs.Plain.{plain_code}
use Rattle.setl_code.specs.CodeOf.{code_of}
use Rattle.setl_code.specs.MayRun.{MayRun}

-- code that stands for the code of a program may run
abbrev pub CodeMayRun : Type 0
CodeMayRun = (p : Program) (c : Code) → Placed p → plain_code c ≡ code_of p → MayRun c
