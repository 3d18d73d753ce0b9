-- The variable of a name where it stands, by the former that binds it.
use Rattle.std.specs.Prelude.{ℕ, [], Option, Some, None}
use Rattle.setl_names.specs.Names.{Name}
use Rattle.setl_names.specs.Variables as meaning
use Rattle.setl_model_runs.specs.Variable as run
use Rattle.setl_program.specs.Scope.{Scope, variable_by}

-- the variable of a name, by the number of the innermost former that binds it
abbrev pub variable_in : Scope → Name → Option ℕ → run.Variable
variable_in s x (Some m) = run.Bound m x
variable_in s x None = variable_by s x (meaning.variable [] s.parameters s.vars x)
