-- What a code does as a whole.
use Rattle.std.specs.Prelude.{◌≡◌, ℕ, Bool, false, List, [], slice_get, Option, Some, None}
use Rattle.setl_model_runs.specs.Variable.{Variable}
use Rattle.setl_modes.specs.Modes.{Mode}
use Rattle.setl_model_runs.specs.Events.{End}
use Rattle.setl_model_runs.specs.Run.{State, Ends, run}
use Rattle.setl_model.specs.Step.{test_of}
use Rattle.setl_code.specs.Code.{Body, Code}
use Rattle.setl_code.specs.CodeCore.{Cells, cleared, variables_of, CodeCore}
use Rattle.setl_code.specs.Machine.{machine}

abbrev pub main_slots : Option Body → Cells
main_slots None = []
main_slots (Some b) = cleared (variables_of 0 b)

-- the first state
abbrev pub code_first : Code → List ℕ → ℕ → State CodeCore
code_first c input turns =
    record {
      core =
          record {
            globals = cleared c.vars;
            now = record { body = 0; at = 0; own = main_slots (slice_get c.bodies 0); operands = [] };
            callers = [];
            kept = [];
            world = record { input = input; eof = false; atom = 1; left = turns };
          };
      out = [];
      events = [];
    }

-- the run of a code on an input with so many turns ends so, after it wrote this output
pub record CodeMeans (c : Code) (modes : List (Variable × Mode)) (input : List ℕ) (turns : ℕ) (based : Bool) (out : List ℕ) (end : End) : Type 0 where
  pub steps : ℕ
  pub last : State CodeCore
  pub ends : run (machine c) (test_of modes based) steps (code_first c input turns) ≡ Ends end last
  pub written : last.out ≡ out
