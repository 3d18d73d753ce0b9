-- Programs whose runs never end for a value that doesn't fit.
use Rattle.std.specs.Prelude.{◌≡◌, ℕ, true, List, Some}
use Rattle.std.specs.List.{AllByRecursion}
use Rattle.setl_model_runs.specs.Events.{End}
use Rattle.setl_model_runs.specs.Run.{State, Ends, run}
use Rattle.setl_model_runs.specs.Variable.{Variable}
use Rattle.setl_modes.specs.Modes.{Mode}
use Rattle.setl_program.specs.Program.{Program}
use Rattle.setl_model.specs.Core.{Core}
use Rattle.setl_model.specs.Means.{first}
use Rattle.setl_model.specs.Step.{language, test_of}
use Rattle.setl_advise_flows.specs.Advice.{Bases, advised}
use Rattle.setl_advise_flows.specs.Expressions.{Flows}
use Rattle.setl_advise_flows.specs.Invariant.{FitsAtEnd}

-- these variables have the modes that are advised for their flows
abbrev pub AreAdvised : Bases → Flows → List (Variable × Mode) → Type 0
AreAdvised b s ms = AllByRecursion (λ m. Some m.1 ≡ advised b (s.of m.0)) ms

-- no run of the program in which its declarations count ends for a value that doesn't fit
abbrev pub RunsFit : Program → Type 0
RunsFit p =
    (input : List ℕ) (turns : ℕ) (n : ℕ) (e : End) (a : State Core) →
    run (language p) (test_of p.modes true) n (first p input turns) ≡ Ends e a → FitsAtEnd e
