-- Flows that grow by conditions stay below each flows that meet these.
use Rattle.std.proofs.Common.{◌≡◌, refl, subst, List, [], ◌∷◌, Bool, true, false, cond, inl, inr}
use Rattle.std.proofs.lemmas.Bool.{eqb-true}
use Rattle.std.specs.Prelude.{nat_eq}
use Rattle.setl_model_runs.specs.Variable.{is_variable}
use Rattle.setl_model_runs.specs.VariableLaws.{same_variable}
use Rattle.setl_advise_flows.specs.Flow.{Flow, join}
use Rattle.setl_advise_flows.specs.Expressions.{Flows}
use Rattle.setl_advise_conditions.specs.Conditions.{Target, Into, ResultOf, Condition, Meets, MeetsAll, term_flow, target_flow}
use Rattle.setl_advise_conditions.specs.Grown.{Begun, Raised, raised, IsAmong}
use Rattle.setl_advise_order.specs.Order.{Le, Within, AreBelow, AreWithin}
use Rattle.setl_advise_order.specs.Claims.{GrownIsLeast}
use Rattle.setl_advise_order.proofs.Orders.{le_through}
use Rattle.setl_advise_order.proofs.Joins.{is_join, below_le}
use Rattle.setl_advise_order.proofs.Terms.{term_l}

met_among : (u : Flows) (cs : List Condition) (c : Condition) → IsAmong cs c → MeetsAll u cs → Meets u c
met_among u [] c a m = absurd a
met_among u (d ∷ cs) c (inl same) m = subst (Meets u) same m.0
met_among u (d ∷ cs) c (inr a) m = met_among u cs c a m.1

joined_under : (b : Bool) (f g h : Flow) → Within 3 h → (b ≡ true → Le f h) → Le g h → Le (cond b (join f g) g) h
joined_under true f g h w p q = (is_join 3 f g).least h w (p refl) q
joined_under false f g h w p q = q

raised_under : (s u : Flows) (t : Target) (f : Flow) → AreBelow s u → AreWithin u → Le f (target_flow u t) → AreBelow (raised s t f) u
raised_under s u (Into x) f below within p = record {
  of = λ y. joined_under (is_variable x y) f (s.of y) (u.of y) (within.of y) (λ e. subst (λ z. Le f (u.of z)) (same_variable x y e) p) (below.of y);
  result = below.result;
}
raised_under s u (ResultOf n) f below within p = record {
  of = below.of;
  result = λ m. joined_under (nat_eq n m) f (s.result m) (u.result m) (within.result m) (λ e. subst (λ z. Le f (u.result z)) (eqb-true n m e) p) (below.result m);
}

pub grown_is_least : GrownIsLeast
grown_is_least cs s u within Begun m = record { of = λ x. tt; result = λ f. tt }
grown_is_least cs s u within (Raised r c g a) m =
    let below = grown_is_least cs r u within g m in
    raised_under r u c.target (term_flow r c.term) below within
    (le_through (term_flow r c.term) (term_flow u c.term) (target_flow u c.target) (term_l r u below within c.term).0 (below_le (term_flow u c.term) (target_flow u c.target) (met_among u cs c a m)).0)
