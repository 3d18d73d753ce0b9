-- Tables of flows.
use Rattle.std.specs.Prelude.{Bool, false, List, [], ◌∷◌, cond, nat_eq}
use Rattle.setl_model_runs.specs.Variable.{is_variable}
use Rattle.setl_advise_flows.specs.Flow.{Flow, Nothing}
use Rattle.setl_advise_flows.specs.Expressions.{Flows}
use Rattle.setl_advise_conditions.specs.Conditions.{Target, Into, ResultOf}

-- whether two targets are one
abbrev pub is_target : Target → Target → Bool
is_target (Into x) (Into y) = is_variable x y
is_target (ResultOf f) (ResultOf g) = nat_eq f g
is_target t u = false

-- Targets with their flows.
abbrev pub Table : Type 0
Table = List (Target × Flow)

-- the flow of a target; one that isn't there has no values
abbrev pub flow_in : Table → Target → Flow
flow_in [] t = Nothing
flow_in (e ∷ es) t = cond (is_target t e.0) e.1 (flow_in es t)

-- the flows of variables and of results
abbrev pub flows_in : Table → Flows
flows_in es = record { of = λ x. flow_in es (Into x); result = λ f. flow_in es (ResultOf f) }
