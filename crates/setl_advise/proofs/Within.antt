-- Flows that grow from no values by joins have at most three constructors inside one another.
use Rattle.std.proofs.Common.{◌≡◌, List, Bool, true, false, cond}
use Rattle.std.specs.Prelude.{nat_eq}
use Rattle.setl_model_runs.specs.Variable.{is_variable}
use Rattle.setl_advise_flows.specs.Flow.{Flow, join}
use Rattle.setl_advise_flows.specs.Expressions.{Flows}
use Rattle.setl_advise_conditions.specs.Conditions.{Target, Into, ResultOf, Condition, term_flow}
use Rattle.setl_advise_conditions.specs.Grown.{Grown, Begun, Raised, no_flows, raised}
use Rattle.setl_advise_order.specs.Claims.{JoinIsAbove}
use Rattle.setl_advise_order.specs.Order.{AreWithin, Within}

one_of : (b : Bool) (f g : Flow) → Within 3 f → Within 3 g → Within 3 (cond b f g)
one_of true f g h k = h
one_of false f g h k = k

module _ (above : JoinIsAbove) where
  raised_within : (s : Flows) (t : Target) (f : Flow) → AreWithin s → AreWithin (raised s t f)
  raised_within s (Into x) f w = record { of = λ y. one_of (is_variable x y) (join f (s.of y)) (s.of y) (above f (s.of y)).2 (w.of y); result = w.result }
  raised_within s (ResultOf n) f w = record { of = w.of; result = λ m. one_of (nat_eq n m) (join f (s.result m)) (s.result m) (above f (s.result m)).2 (w.result m) }

  pub grown_within : (cs : List Condition) (s : Flows) → Grown cs s → AreWithin s
  grown_within cs _ Begun = record { of = λ x. tt; result = λ n. tt }
  grown_within cs _ (Raised s c g among) = raised_within s c.target (term_flow s c.term) (grown_within cs s g)
