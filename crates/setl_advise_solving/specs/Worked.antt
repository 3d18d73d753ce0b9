-- What looking at conditions does to flows.
use Rattle.std.specs.Prelude.{◌≡◌, ◌<◌, ◌≤◌, Bool, true, List}
use Rattle.setl_advise_flows.specs.Expressions.{Flows}
use Rattle.setl_advise_conditions.specs.Conditions.{Condition}
use Rattle.setl_advise_conditions.specs.Grown.{Grown}
use Rattle.setl_advise_conditions.specs.Rank.{room}

-- Flows become others by what some of these conditions store. Where one changed, less room is left.
pub record Worked (cs : List Condition) (rose : Bool) (before after : Flows) : Type 0 where
  pub grown : Grown cs before → Grown cs after
  pub less : rose ≡ true → room cs after < room cs before
  pub no_more : room cs after ≤ room cs before
