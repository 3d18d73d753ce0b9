-- What flows say of the runs of a program.
use Rattle.std.specs.Prelude.{◌≡◌, ℕ, false, true, List, Option, None}
use Rattle.setl_value.specs.Datum.{Datum}
use Rattle.setl_model_runs.specs.Variable.{Variable}
use Rattle.setl_model_runs.specs.Events.{End}
use Rattle.setl_model_runs.specs.Run.{State, Ends, run}
use Rattle.setl_program.specs.Program.{Program}
use Rattle.setl_program.specs.Formed.{Formed}
use Rattle.setl_modes.specs.Modes.{Mode}
use Rattle.setl_modes.specs.Fits.{is_taken}
use Rattle.setl_advise_flows.specs.Flow.{Flow, Any}
use Rattle.setl_model.specs.Core.{Core, read_variable}
use Rattle.setl_model.specs.Step.{language, test_of, declared_mode}
use Rattle.setl_model.specs.Means.{first, Reaches}
use Rattle.setl_advise_flows.specs.Has.{HasAt}
use Rattle.setl_advise_flows.specs.Expressions.{Flows, Solves}
use Rattle.setl_advise_flows.specs.Invariant.{FitsAtEnd}
use Rattle.setl_advise_flows.specs.Advice.{Bases, advised}

-- In each state that a run without declarations reaches, each variable that is in sight has a value in its flow.
abbrev pub ReachedInFlows : Type 0
ReachedInFlows =
    (p : Program) (s : Flows) → Solves p s → (input : List ℕ) (turns : ℕ) (a : State Core) → Reaches p input turns false a →
    (x : Variable) → HasAt (s.of x) (read_variable x a.core.shared)

-- A value in a flow fits the mode that is advised for the flow, whatever the numbers of the bases.
abbrev pub FlowsFit : Type 0
FlowsFit = (b : Bases) (f : Flow) (v : Option Datum) → HasAt f v → is_taken (advised b f) v ≡ true

-- a variable has the mode that is advised for its flow, or none
pub data HasAdvice (m : Option Mode) (b : Bases) (f : Flow) : Type 0 where
  IsUndeclared : m ≡ None → HasAdvice m b f
  IsAdvised : m ≡ advised b f → HasAdvice m b f

-- the declared variables have the modes that are advised for their flows
abbrev pub Advises : Program → Bases → Flows → Type 0
Advises p b s = (x : Variable) → HasAdvice (declared_mode p.modes x) b (s.of x)

-- No run of a program whose modes are those that are advised ends for a value that doesn't fit.
abbrev pub AdviceFits : Type 0
AdviceFits =
    (p : Program) (s : Flows) (b : Bases) → Solves p s → Advises p b s → (input : List ℕ) (turns : ℕ) (n : ℕ) (e : End) (a : State Core) →
    run (language p) (test_of p.modes true) n (first p input turns) ≡ Ends e a → FitsAtEnd e

-- flows of which each has all values
abbrev pub everything : Flows
everything = record { of = λ x. Any; result = λ f. Any }

-- The conditions of each formed program can be met.
abbrev pub EachHasSolution : Type 0
EachHasSolution = (p : Program) → Formed p → Solves p everything
