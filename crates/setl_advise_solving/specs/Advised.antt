-- Flows whose advice never ends a run for a value that doesn't fit.
use Rattle.std.specs.Prelude.{◌≡◌, ℕ, true, List}
use Rattle.setl_model_runs.specs.Variable.{Variable}
use Rattle.setl_model_runs.specs.Events.{End}
use Rattle.setl_model_runs.specs.Run.{State, Ends, run}
use Rattle.setl_modes.specs.Modes.{Mode}
use Rattle.setl_program.specs.Program.{Program}
use Rattle.setl_model.specs.Core.{Core}
use Rattle.setl_model.specs.Step.{language, test_of}
use Rattle.setl_model.specs.Means.{first}
use Rattle.setl_advise_flows.specs.Expressions.{Flows}
use Rattle.setl_advise_flows.specs.Advice.{Bases}
use Rattle.setl_advise_flows.specs.Claims.{Advises}
use Rattle.setl_advise_flows.specs.Invariant.{FitsAtEnd}

-- the program with these modes of declared variables
abbrev pub with_modes : Program → List (Variable × Mode) → Program
with_modes p m = record p { modes = m }

-- Where the declared variables have the modes that are advised for these flows, no run ends for a value that doesn't fit.
abbrev pub NeverUnfit : Program → Flows → Type 0
NeverUnfit p s =
    (m : List (Variable × Mode)) (b : Bases) → Advises (with_modes p m) b s → (input : List ℕ) (turns : ℕ) (n : ℕ) (e : End) (a : State Core) →
    run (language (with_modes p m)) (test_of m true) n (first (with_modes p m) input turns) ≡ Ends e a → FitsAtEnd e
