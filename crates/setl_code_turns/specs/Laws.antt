-- A bound on turns only cuts a run of code.
use Rattle.std.specs.Prelude.{◌≡◌, ◌≤◌, ◌<◌, ◌+◌, ℕ, suc, List}
use Rattle.setl_model_runs.specs.Events.{End, Spent}
use Rattle.setl_model_runs.specs.Run.{State, Goes, Ends, Test, step, run}
use Rattle.setl_code.specs.Code.{Code}
use Rattle.setl_code.specs.CodeCore.{CodeCore}
use Rattle.setl_code.specs.CodeMeans.{code_first}
use Rattle.setl_code.specs.Machine.{machine}

-- the core with so many turns more
abbrev pub with_more : ℕ → CodeCore → CodeCore
with_more d k = record k { world = record k.world { left = k.world.left + d } }

abbrev pub richer : ℕ → State CodeCore → State CodeCore
richer d s = record s { core = with_more d s.core }

-- A state of a run with more turns that has the difference left is one of a run with fewer turns, but for these.
abbrev pub FewerTurnsReach : Type 0
FewerTurnsReach = (c : Code) (test : Test) (input : List ℕ) (turns d n : ℕ) (t : State CodeCore) →
    run (machine c) test n (code_first c input (turns + d)) ≡ Goes t → d ≤ t.core.world.left → (s : State CodeCore) × (run (machine c) test n (code_first c input turns) ≡ Goes s) × (t ≡ richer d s)

-- where a step with more turns leaves less than the difference, one with fewer turns spends the run before anything is done
abbrev pub FewerTurnsAreSpent : Type 0
FewerTurnsAreSpent = (c : Code) (test : Test) (d : ℕ) (s u : State CodeCore) → step (machine c) test (richer d s) ≡ Goes u → u.core.world.left < d → step (machine c) test s ≡ Ends Spent s

-- So where a run with more turns comes to a state that has the difference left, and its next step to one that hasn't, the one
-- with fewer turns is out of turns at that state, but for these.
abbrev pub FewerTurnsEndThere : Type 0
FewerTurnsEndThere = (c : Code) (test : Test) (input : List ℕ) (turns d n : ℕ) (t u : State CodeCore) →
    run (machine c) test n (code_first c input (turns + d)) ≡ Goes t → d ≤ t.core.world.left → step (machine c) test t ≡ Goes u → u.core.world.left < d →
    (s : State CodeCore) × (run (machine c) test (suc n) (code_first c input turns) ≡ Ends Spent s) × (t ≡ richer d s)

-- where a step with more turns ends the run, one with fewer turns doesn't go on
abbrev pub FewerTurnsDontGoOn : Type 0
FewerTurnsDontGoOn = (c : Code) (test : Test) (d : ℕ) (s t u : State CodeCore) (e : End) → step (machine c) test (richer d s) ≡ Ends e u → step (machine c) test s ≡ Goes t → ⊥

-- no run has more turns left than it began with
abbrev pub TurnsNeverGrow : Type 0
TurnsNeverGrow = (c : Code) (test : Test) (n : ℕ) (s t : State CodeCore) → run (machine c) test n s ≡ Goes t → t.core.world.left ≤ s.core.world.left

-- a run that ended, and not for want of turns, ends alike with more of them
abbrev pub MoreTurnsKeepCodeEnds : Type 0
MoreTurnsKeepCodeEnds = (c : Code) (test : Test) (input : List ℕ) (turns d n : ℕ) (t : State CodeCore) (e : End) →
    (e ≡ Spent → ⊥) → run (machine c) test n (code_first c input turns) ≡ Ends e t → run (machine c) test n (code_first c input (turns + d)) ≡ Ends e (richer d t)
