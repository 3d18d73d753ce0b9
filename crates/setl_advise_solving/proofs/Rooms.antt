-- What a raised flow leaves of the room of conditions.
use Rattle.std.proofs.Common.{◌≡◌, sym, subst, refl, arith, ℕ, ◌-◌, ◌<◌, ◌≤◌, List, [], ◌∷◌, cond, Bool, true, false, inl, inr}
use Rattle.std.proofs.lemmas.Bool.{eqb-true}
use Rattle.std.specs.Prelude.{nat_eq}
use Rattle.setl_model_runs.specs.Variable.{is_variable}
use Rattle.setl_model_runs.specs.VariableLaws.{same_variable, variable_itself}
use Rattle.std.proofs.lemmas.Bool.{eq-eqb}
use Rattle.setl_advise_flows.specs.Flow.{Flow, join}
use Rattle.setl_advise_flows.specs.Expressions.{Flows}
use Rattle.setl_advise_conditions.specs.Conditions.{Target, Into, ResultOf, Condition, target_flow}
use Rattle.setl_advise_conditions.specs.Grown.{raised, IsAmong}
use Rattle.setl_advise_conditions.specs.Rank.{height, rank, room}
use Rattle.setl_advise_conditions.specs.RankLaws.{bounded}

-- a flow has risen or is the same
cond_rises : (b : Bool) (f g : Flow) → (b ≡ true → rank 3 f < rank 3 g) → rank 3 f ≤ rank 3 (cond b g f)
cond_rises true f g h = let l = h refl in omega (arith, l)
cond_rises false f g h = omega arith

-- each target has at least the rank that it had
none_falls : (s : Flows) (t d : Target) (f : Flow) → rank 3 (target_flow s t) < rank 3 (join f (target_flow s t)) → rank 3 (target_flow s d) ≤ rank 3 (target_flow (raised s t f) d)
none_falls s (Into x) (Into y) f h = cond_rises (is_variable x y) (s.of y) (join f (s.of y)) (λ e. subst (λ z. rank 3 (s.of z) < rank 3 (join f (s.of z))) (same_variable x y e) h)
none_falls s (Into x) (ResultOf n) f h = omega arith
none_falls s (ResultOf m) (Into y) f h = omega arith
none_falls s (ResultOf m) (ResultOf n) f h = cond_rises (nat_eq m n) (s.result n) (join f (s.result n)) (λ e. subst (λ z. rank 3 (s.result z) < rank 3 (join f (s.result z))) (eqb-true m n e) h)

-- and the one that is raised has more
one_rises : (s : Flows) (t : Target) (f : Flow) → rank 3 (target_flow s t) < rank 3 (join f (target_flow s t)) → rank 3 (target_flow s t) < rank 3 (target_flow (raised s t f) t)
one_rises s (Into x) f h = rw (variable_itself x) h
one_rises s (ResultOf m) f h = rw (eq-eqb m m refl) h

abbrev left : Flow → ℕ
left f = height 3 - rank 3 f

left_falls : (f g : Flow) → rank 3 f ≤ rank 3 g → left g ≤ left f
left_falls f g h = let k = bounded 3 g in omega (arith, h, k)

left_less : (f g : Flow) → rank 3 f < rank 3 g → left g < left f
left_less f g h = let k = bounded 3 g in omega (arith, h, k)

module _ (s u : Flows) (falls : (d : Target) → rank 3 (target_flow s d) ≤ rank 3 (target_flow u d)) where
  room_falls : (cs : List Condition) → room cs u ≤ room cs s
  room_falls [] = omega arith
  room_falls (c ∷ cs) =
      let k = left_falls (target_flow s c.target) (target_flow u c.target) (falls c.target) in
      let l = room_falls cs in
      omega (arith, k, l)

  room_less : (cs : List Condition) (c : Condition) → IsAmong cs c → rank 3 (target_flow s c.target) < rank 3 (target_flow u c.target) → room cs u < room cs s
  room_less [] c among h = absurd among
  room_less (d ∷ cs) c (inl same) h =
      let k = left_less (target_flow s d.target) (target_flow u d.target) (subst (λ (e : Condition). rank 3 (target_flow s e.target) < rank 3 (target_flow u e.target)) (sym same) h) in
      let l = room_falls cs in
      omega (arith, k, l)
  room_less (d ∷ cs) c (inr among) h =
      let k = left_falls (target_flow s d.target) (target_flow u d.target) (falls d.target) in
      let l = room_less cs c among h in
      omega (arith, k, l)

pub raise_takes_room : (cs : List Condition) (s : Flows) (c : Condition) (f : Flow) → IsAmong cs c → rank 3 (target_flow s c.target) < rank 3 (join f (target_flow s c.target)) → room cs (raised s c.target f) < room cs s
raise_takes_room cs s c f among h = room_less s (raised s c.target f) (λ d. none_falls s c.target d f h) cs c among (one_rises s c.target f h)
