-- Flows that grow from no values by what conditions store.
use Rattle.std.specs.Prelude.{◌≡◌, ◌⊎◌, nat_eq, List, [], ◌∷◌, cond}
use Rattle.setl_model_runs.specs.Variable.{is_variable}
use Rattle.setl_advise_flows.specs.Flow.{Flow, Nothing, join}
use Rattle.setl_advise_flows.specs.Expressions.{Flows}
use Rattle.setl_advise_conditions.specs.Conditions.{Target, Into, ResultOf, Condition, term_flow}

-- no values
abbrev pub no_flows : Flows
no_flows = record { of = λ x. Nothing; result = λ f. Nothing }

-- the flows in which a target has these values too
abbrev pub raised : Flows → Target → Flow → Flows
raised s (Into x) f = record { of = λ y. cond (is_variable x y) (join f (s.of y)) (s.of y); result = s.result }
raised s (ResultOf n) f = record { of = s.of; result = λ m. cond (nat_eq n m) (join f (s.result m)) (s.result m) }

abbrev pub raised_by : Flows → Condition → Flows
raised_by s c = raised s c.target (term_flow s c.term)

-- one of some conditions
abbrev pub IsAmong : List Condition → Condition → Type 0
IsAmong [] c = ⊥
IsAmong (d ∷ ds) c = (d ≡ c) ⊎ IsAmong ds c

-- Flows that come from no values, where step by step what a condition stores is put into the flow of its target.
pub data Grown (cs : List Condition) : Flows → Type 0 where
  Begun : Grown cs no_flows
  Raised : (s : Flows) (c : Condition) → Grown cs s → IsAmong cs c → Grown cs (raised_by s c)
