-- What holds of the code of accepted sources.
use Rattle.std.specs.Prelude.{◌≡◌, ◌<◌, ◌^◌, ◌⊎◌, ℕ, Bool, List}
use Rattle.setl_model_runs.specs.Run.{run}
use Rattle.setl_program.specs.Program.{Program}
use Rattle.setl_model.specs.Step.{test_of}
use Rattle.setl_model_values.specs.ModelValues.{AreBytes}
use Rattle.setl_code.specs.Code.{Code}
use Rattle.setl_code.specs.CodeMeans.{code_first}
use Rattle.setl_code.specs.CodeOf.{code_of}
use Rattle.setl_code.specs.Machine.{machine}
use Rattle.setl_code_values.specs.Laws.{RunCounts, last_state}
use Rattle.setl_code_values.specs.Standing.{CodeStands, StateStands}
use Rattle.setl_top.specs.Accepted.{Accepted}
use Rattle.setl_top.specs.Listings.{IsMarked}

-- A source of bytes, its program, and the program's code or marked code.
pub record IsCodeOf (source : List ℕ) (program : Program) (code : Code) : Type 0 where
  pub bytes : AreBytes source
  pub accepted : Accepted source program
  pub generated : (code ≡ code_of program) ⊎ IsMarked program code

-- what such code pushes are values
abbrev pub CodeOfProgramsStands : Type 0
CodeOfProgramsStands = (source : List ℕ) (program : Program) (code : Code) → IsCodeOf source program code → CodeStands code

-- and in each state that its run reaches, up to the last one, all values are values, whether declarations count or not
abbrev pub ReachedStatesStand : Type 0
ReachedStatesStand =
    (source : List ℕ) (program : Program) (code : Code) (input : List ℕ) (turns n : ℕ) (based : Bool)
    → IsCodeOf source program code → AreBytes input → turns < 2 ^ 64
    → RunCounts code (test_of program.modes based) (code_first code input turns)
    → StateStands (last_state (run (machine code) (test_of program.modes based) n (code_first code input turns)))
