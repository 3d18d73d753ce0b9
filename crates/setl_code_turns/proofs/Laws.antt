-- The laws of the bound on turns.
use Rattle.std.proofs.Common.{arith, ◌≡◌, sym, ap, ◌∙◌, subst, zero, suc}
use Rattle.std.specs.Prelude.{◌+◌}
use Rattle.setl_model_runs.specs.Run.{State, Goes, Ends, step, run}
use Rattle.setl_code.specs.CodeCore.{CodeCore}
use Rattle.setl_code.specs.CodeMeans.{code_first}
use Rattle.setl_code.specs.Machine.{machine}
use Rattle.setl_code_turns.specs.Laws.{with_more, richer, FewerTurnsReach, FewerTurnsAreSpent, FewerTurnsEndThere, FewerTurnsDontGoOn, MoreTurnsKeepCodeEnds}
use Rattle.setl_code_turns.proofs.Steps.{one_more, reaches, spends, stops, keeps_end}

-- no turns more
same_core : (k : CodeCore) → with_more 0 k ≡ k
same_core k = let e : k.world.left + 0 ≡ k.world.left = omega arith in ap (λ n. record k { world = record k.world { left = n } }) e

pub same : (s : State CodeCore) → richer 0 s ≡ s
same s = ap (λ k. record s { core = k }) (same_core s.core)

pub reach : FewerTurnsReach
reach c test input turns zero n t e h =
    let none : turns + 0 ≡ turns = omega arith in
    (t, subst (λ k. run (machine c) test n (code_first c input k) ≡ Goes t) none e, sym (same t))
reach c test input turns (suc d) n t e h = reaches c test (suc d) (omega arith) n (code_first c input turns) t e h

pub spent : FewerTurnsAreSpent
spent c test zero s u e few = absurd (omega (arith, few))
spent c test (suc d) s u e few = spends c test (suc d) (omega arith) s u e few

pub ends : FewerTurnsDontGoOn
ends c test zero s t u f e g = let k : step (machine c) test s ≡ Ends f u = subst (λ a. step (machine c) test a ≡ Ends f u) (same s) e in cc
ends c test (suc d) s t u f e g = stops c test (suc d) (omega arith) s t u f e g

pub keeps : MoreTurnsKeepCodeEnds
keeps c test input turns zero n t e other h =
    let none : turns + 0 ≡ turns = omega arith in
    subst (λ k. run (machine c) test n (code_first c input k) ≡ Ends e (richer 0 t)) (sym none) (h ∙ ap (Ends e) (sym (same t)))
keeps c test input turns (suc d) n t e other h = keeps_end c test (suc d) (omega arith) n (code_first c input turns) t e other h

pub there : FewerTurnsEndThere
there c test input turns d n t u e h k few =
    let r = reach c test input turns d n t e h in
    let last = spent c test d r.0 u (subst (λ (a : State CodeCore). step (machine c) test a ≡ Goes u) r.2 k) few in
    (r.0, one_more c test n (code_first c input turns) r.0 r.1 ∙ last, r.2)
