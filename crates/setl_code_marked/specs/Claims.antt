-- What marked code does.
use Rattle.std.specs.Prelude.{◌≡◌, ◌↔◌, ℕ, Bool, List}
use Rattle.setl_model_runs.specs.Variable.{Variable}
use Rattle.setl_model_runs.specs.Events.{End}
use Rattle.setl_model_runs.specs.Run.{Test, run}
use Rattle.setl_modes.specs.Modes.{Mode}
use Rattle.setl_code.specs.Code.{Code}
use Rattle.setl_code.specs.Machine.{machine}
use Rattle.setl_code.specs.CodeMeans.{code_first, CodeMeans}
use Rattle.setl_code.specs.Sound.{Sound}
use Rattle.setl_code_marked.specs.Marked.{Marked}
use Rattle.setl_code_marked.specs.Alike.{AlikeNext}

-- sound code stays sound when it is marked
abbrev pub MarkedIsSound : Type 0
MarkedIsSound = (declared : List Variable) (c m : Code) → Marked declared c m → Sound c declared → Sound m declared

-- there is one marked code
abbrev pub MarkedIsOne : Type 0
MarkedIsOne = (declared : List Variable) (c m o : Code) → Marked declared c m → Marked declared c o → m ≡ o

-- after each number of steps the runs of a code and of its marked code are alike
abbrev pub MarkedRunsAlike : Type 0
MarkedRunsAlike = (declared : List Variable) (c m : Code) → Marked declared c m → (test : Test) (input : List ℕ) (turns n : ℕ) → AlikeNext declared c (run (machine c) test n (code_first c input turns)) (run (machine m) test n (code_first m input turns))

-- so it means what the code means
abbrev pub MarkedMeansAlike : Type 0
MarkedMeansAlike = (declared : List Variable) (c m : Code) → Marked declared c m → (modes : List (Variable × Mode)) (input : List ℕ) (turns : ℕ) (based : Bool) (out : List ℕ) (end : End) → CodeMeans c modes input turns based out end ↔ CodeMeans m modes input turns based out end

-- there is a marked code of each code
abbrev pub MarkedIsThere : Type 0
MarkedIsThere = (declared : List Variable) (c : Code) → (m : Code) × Marked declared c m
