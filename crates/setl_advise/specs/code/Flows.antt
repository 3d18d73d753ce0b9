-- Variables with their flows.
use Rattle.std.specs.Prelude.{◌≡◌, List}
use Rattle.setl_model_runs.specs.Variable.{Variable}
use Rattle.setl_program.specs.Program.{Program}
use Rattle.setl_advise_flows.specs.Expressions.{Flows}
use Rattle.setl_advise_section.specs.Section.{Variables}
use Rattle.setl_advise.specs.Advice.{AreLeast, with_flows}

-- these variables by their names, with their flows among the least of a program
pub record HaveLeastFlows (p : Program) (xs : List Variable) (vs : Variables) : Type 0 where
  pub flows : Flows
  pub least : AreLeast p flows
  pub variables : vs ≡ with_flows flows xs
