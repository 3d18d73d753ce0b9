-- Every value in every reached state is a value.
use Rattle.std.specs.Prelude.{◌≡◌, ℕ, ◌<◌, ◌^◌, List}
use Rattle.setl_model_runs.specs.Run.{State, Test, Next, Goes, Ends, run}
use Rattle.setl_model_values.specs.ModelValues.{AreBytes}
use Rattle.setl_code.specs.Code.{Code}
use Rattle.setl_code.specs.CodeCore.{CodeCore}
use Rattle.setl_code.specs.CodeMeans.{code_first}
use Rattle.setl_code.specs.Machine.{fetch, machine}
use Rattle.setl_code_values.specs.Standing.{StateStands, CodeStands, StepCounts}

-- a run on bytes starts so
abbrev pub StartsStand : Type 0
StartsStand = (c : Code) (input : List ℕ) (turns : ℕ) → AreBytes input → turns < 2 ^ 64 → StateStands (code_first c input turns)

-- at each state that is reached, what its step counts is in range
abbrev pub RunCounts : Code → Test → State CodeCore → Type 0
RunCounts c test s = (m : ℕ) (u : State CodeCore) → run (machine c) test m s ≡ Goes u → StepCounts (fetch c u.core.now.body u.core.now.at) u.core

-- the state that a run came to, or the last one where it ended
abbrev pub last_state : Next CodeCore → State CodeCore
last_state (Goes s) = s
last_state (Ends end s) = s

-- and goes on so, up to its end
abbrev pub RunsStand : Type 0
RunsStand = (c : Code) (test : Test) (n : ℕ) (s : State CodeCore) → CodeStands c → RunCounts c test s → StateStands s → StateStands (last_state (run (machine c) test n s))
