-- Runs one after the other are a run.
use Rattle.std.specs.Prelude.{◌≡◌, ℕ, zero, suc}
use Rattle.std.proofs.Common.{ap, ◌∙◌}
use Rattle.setl_model_runs.specs.Run.{State, Next, Goes, Ends, Machine, Test, step, and_then, run}

pub runs_join : {C : Type 0} (m : Machine C) (test : Test) (n k : ℕ) (a b : State C) (x : Next C) → run m test n a ≡ Goes b → run m test k b ≡ x → (j : ℕ) × (run m test j a ≡ x)
runs_join m test zero k a b x h g = let same : a ≡ b = cc in (k, ap (run m test k) same ∙ g)
runs_join {C} m test (suc n) k a b x h g = let later = go (step m test a) h (λ d i. runs_join m test n k d b x i g) in (suc later.0, later.1)
  where
    go : (y : Next C) → and_then y (run m test n) ≡ Goes b → ((d : State C) → run m test n d ≡ Goes b → (j : ℕ) × (run m test j d ≡ x)) → (j : ℕ) × (and_then y (run m test j) ≡ x)
    go (Goes d) h ih = ih d h
    go (Ends e d) h ih = cc
