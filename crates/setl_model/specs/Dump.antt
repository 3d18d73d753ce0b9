-- The dump: the members of each base and the value of each declared variable in its form, at the end of a run.
use Rattle.std.specs.Prelude.{ℕ, List, [], ◌∷◌, ◌++◌, Option}
use Rattle.setl_value.specs.Datum.{Datum}
use Rattle.setl_model_runs.specs.Variable.{Variable, Global, Environment, name_of, value_in}
use Rattle.setl_modes.specs.Modes.{Mode}
use Rattle.setl_modes_dump.specs.Dump.{Bases, variable_line, base_lines}
use Rattle.setl_model_runs.specs.Run.{State}
use Rattle.setl_model.specs.Core.{InCall, Activation, Frame, Core}
use Rattle.setl_model.specs.Entered.{entered}

-- ---- the variables of the main program

-- the main program's own variables: those in hand, or those that the outermost call has put aside
abbrev pub main_own : Environment → List Frame → Environment
main_own own [] = own
main_own own (InCall (Activation name backs outer) ∷ work) = main_own outer work
main_own own (f ∷ work) = main_own own work

-- what a declared variable holds
abbrev pub declared_value : Variable → Core → Option Datum
declared_value (Global name) c = value_in c.shared.globals (Global name)
declared_value x c = value_in (main_own c.shared.own c.work) x

abbrev pub variable_lines : Bases → List (Variable × Mode) → Core → List ℕ
variable_lines bases [] c = []
variable_lines bases (m ∷ ms) c = variable_line bases (name_of m.0) m.1 (declared_value m.0 c) ++ variable_lines bases ms c

-- the dump of a state, with the names of the bases and the modes of the variables in the order of their declarations
abbrev pub layout : List (List ℕ) → List (Variable × Mode) → State Core → List ℕ
layout names modes s =
    let bases : Bases = λ b. entered modes b s.events in base_lines bases 0 names ++ variable_lines bases modes s.core
