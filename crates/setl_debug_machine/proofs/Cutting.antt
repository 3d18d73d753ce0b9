-- Where a bound on turns cuts a run of code.
use Rattle.std.proofs.Common.{◌≡◌, ◌∙◌, refl, sym, ap, subst, ℕ, suc, List}
use Rattle.std.specs.Prelude.{◌+◌, ◌≤◌, ◌<◌}
use Rattle.setl_model_runs.specs.Events.{Event, End, Spent}
use Rattle.setl_model_runs.specs.Run.{State, Next, Goes, Ends, step, run}
use Rattle.setl_code.specs.Code.{Code}
use Rattle.setl_code.specs.CodeCore.{CodeCore}
use Rattle.setl_code.specs.CodeMeans.{code_first}
use Rattle.setl_code.specs.Machine.{machine}
use Rattle.setl_code_turns.specs.Laws.{richer, FewerTurnsReach, FewerTurnsEndThere, FewerTurnsDontGoOn}
use Rattle.setl_machine.specs.Outcome.{EndsChangeNothing}
use Rattle.setl_machine_control.specs.Declaring.{Modes, tested, AreOfMain, IsBare}
use Rattle.setl_debug_machine.proofs.Reaching.{step_more}

-- the run with so many turns ends after it wrote and told this
pub record CutThere (c : Code) (modes : Modes) (input : List ℕ) (turns : ℕ) (out : List ℕ) (events : List Event) : Type 0 where
  pub steps : ℕ
  pub end : End
  pub last : State CodeCore
  pub ends : run (machine c) (tested modes) steps (code_first c input turns) ≡ Ends end last
  pub written : last.out ≡ out
  pub told : last.events ≡ events

-- at a state from which the next step needs more turns
pub out_of_turns : FewerTurnsEndThere → (c : Code) (modes : Modes) (input : List ℕ) (turns d n : ℕ) (t u : State CodeCore) →
    run (machine c) (tested modes) n (code_first c input (turns + d)) ≡ Goes t → d ≤ t.core.world.left → step (machine c) (tested modes) t ≡ Goes u → u.core.world.left < d → CutThere c modes input turns t.out t.events
out_of_turns there c modes input turns d n t u r within g beyond =
    let s = there c (tested modes) input turns d n t u r within g beyond in
    record { steps = suc n; end = Spent; last = s.0; ends = s.1; written = sym (ap (λ (x : State CodeCore). x.out) s.2); told = sym (ap (λ (x : State CodeCore). x.events) s.2) }

-- at a state from which the next step ends the run
pub at_end : FewerTurnsReach → FewerTurnsDontGoOn → EndsChangeNothing → (c : Code) (modes : Modes) (input : List ℕ) (turns d n : ℕ) (t u : State CodeCore) (e : End) → AreOfMain modes → IsBare c →
    run (machine c) (tested modes) n (code_first c input (turns + d)) ≡ Goes t → d ≤ t.core.world.left → step (machine c) (tested modes) t ≡ Ends e u → CutThere c modes input turns t.out t.events
at_end reach stops nothing c modes input turns d n t u e main bare r within g = go (step (machine c) (tested modes) s.0) refl
  where
    s : (s : State CodeCore) × (run (machine c) (tested modes) n (code_first c input turns) ≡ Goes s) × (t ≡ richer d s)
    s = reach c (tested modes) input turns d n t r within

    go : (x : Next CodeCore) → step (machine c) (tested modes) s.0 ≡ x → CutThere c modes input turns t.out t.events
    go (Goes v) h = absurd (stops c (tested modes) d s.0 v u e (subst (λ (x : State CodeCore). step (machine c) (tested modes) x ≡ Ends e u) s.2 g) h)
    go (Ends f v) h =
        let same = nothing c modes s.0 v f main bare h in
        let j = step_more (machine c) (tested modes) n (code_first c input turns) s.0 (Ends f v) s.1 h in
        record { steps = suc n; end = f; last = v; ends = j; written = same.0 ∙ sym (ap (λ (x : State CodeCore). x.out) s.2); told = same.1 ∙ sym (ap (λ (x : State CodeCore). x.events) s.2) }
