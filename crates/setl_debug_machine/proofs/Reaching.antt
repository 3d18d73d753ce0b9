-- One step more of a run.
use Rattle.std.proofs.Common.{◌≡◌, ◌∙◌, refl, sym, ap, arith, ℕ, zero, suc}
use Rattle.std.specs.Prelude.{◌≤◌}
use Rattle.setl_model_runs.specs.Events.{End}
use Rattle.setl_model_runs.specs.Run.{State, Next, Goes, Ends, Machine, Test, step, and_then, run}

one : {C : Type 0} (m : Machine C) (test : Test) (x : Next C) → and_then x (run m test 0) ≡ x
one m test (Goes s) = refl
one m test (Ends e s) = refl

pub one_step : {C : Type 0} (m : Machine C) (test : Test) (a : State C) (x : Next C) → step m test a ≡ x → run m test 1 a ≡ x
one_step m test a x h = one m test (step m test a) ∙ h

-- a step behind a state of a run
pub step_more : {C : Type 0} (m : Machine C) (test : Test) (n : ℕ) (a b : State C) (x : Next C) → run m test n a ≡ Goes b → step m test b ≡ x → run m test (suc n) a ≡ x
step_more m test zero a b x h k = let same : a ≡ b = cc in one_step m test a x (ap (step m test) same ∙ k)
step_more {C} m test (suc n) a b x h k = go (step m test a) h (λ d i. step_more m test n d b x i k)
  where
    go : (y : Next C) → and_then y (run m test n) ≡ Goes b → ((d : State C) → run m test n d ≡ Goes b → run m test (suc n) d ≡ x) → and_then y (run m test (suc n)) ≡ x
    go (Goes d) h ih = ih d h
    go (Ends e d) h ih = absurd (cc)

-- a run that ended stays there
pub stays_ended : {C : Type 0} (m : Machine C) (test : Test) (k n : ℕ) (a b : State C) (e : End) → run m test k a ≡ Ends e b → k ≤ n → run m test n a ≡ Ends e b
stays_ended m test zero n a b e h le = absurd (cc)
stays_ended m test (suc k) zero a b e h le = absurd (omega (arith, le))
stays_ended {C} m test (suc k) (suc n) a b e h le = go (step m test a) h (λ d i. stays_ended m test k n d b e i (omega (arith, le)))
  where
    go : (y : Next C) → and_then y (run m test k) ≡ Ends e b → ((d : State C) → run m test k d ≡ Ends e b → run m test n d ≡ Ends e b) → and_then y (run m test n) ≡ Ends e b
    go (Goes d) h ih = ih d h
    go (Ends f d) h ih = h

-- so a run that goes on later didn't end before
pub not_ended : {C : Type 0} (m : Machine C) (test : Test) (k n : ℕ) (a b c : State C) (e : End) → run m test k a ≡ Ends e b → k ≤ n → run m test n a ≡ Goes c → ⊥
not_ended m test k n a b c e h le later =
    let clash : Ends e b ≡ Goes c = sym (stays_ended m test k n a b e h le) ∙ later in
    absurd (cc)
