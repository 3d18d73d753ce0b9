-- Declared variables whose modes are advised.
use Rattle.std.proofs.Common.{◌≡◌, ap, sym, subst, refl, Bool, true, false, cond, List, [], ◌∷◌, Some, None}
use Rattle.setl_model_runs.specs.Variable.{Variable, is_variable}
use Rattle.setl_model_runs.specs.VariableLaws.{same_variable}
use Rattle.setl_modes.specs.Modes.{Mode}
use Rattle.setl_model.specs.Step.{declared_mode}
use Rattle.setl_advise_flows.specs.Advice.{Bases, advised}
use Rattle.setl_advise_flows.specs.Claims.{HasAdvice, IsUndeclared, IsAdvised}
use Rattle.setl_advise_flows.specs.Expressions.{Flows}
use Rattle.setl_advise_checked.specs.Checked.{AreAdvised}

-- so each variable has the mode that is advised for its flow, or none
pub have_advice : (b : Bases) (s : Flows) (ms : List (Variable × Mode)) → AreAdvised b s ms → (x : Variable) → HasAdvice (declared_mode ms x) b (s.of x)
have_advice b s [] h x = IsUndeclared refl
have_advice b s (m ∷ ms) h x = choice (is_variable m.0 x) refl (have_advice b s ms h.1 x)
  where
    choice : (t : Bool) → is_variable m.0 x ≡ t → HasAdvice (declared_mode ms x) b (s.of x) → HasAdvice (cond t (Some m.1) (declared_mode ms x)) b (s.of x)
    choice true e later = IsAdvised (subst (λ y. Some m.1 ≡ advised b (s.of y)) (same_variable m.0 x e) h.0)
    choice false e later = later
