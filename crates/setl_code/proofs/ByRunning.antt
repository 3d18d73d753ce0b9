-- A code means what its run up to a bound ends with.
use Rattle.std.proofs.Common.{◌≡◌, ℕ, Bool, List, Option, Some, None, ap}
use Rattle.setl_model_runs.specs.Variable.{Variable}
use Rattle.setl_modes.specs.Modes.{Mode}
use Rattle.setl_model_runs.specs.Events.{End}
use Rattle.setl_model_runs.specs.Run.{State, Next, Goes, Ends, run}
use Rattle.setl_code.specs.Code.{Code}
use Rattle.setl_code.specs.CodeCore.{CodeCore}
use Rattle.setl_model.specs.Step.{test_of}
use Rattle.setl_code.specs.Machine.{machine}
use Rattle.setl_code.specs.CodeMeans.{code_first, CodeMeans}

abbrev ending : Next CodeCore → Option (List ℕ × End)
ending (Goes s) = None
ending (Ends e s) = Some (s.out, e)

abbrev pub found : Code → List (Variable × Mode) → List ℕ → ℕ → Bool → Option (List ℕ × End)
found c modes input turns based = ending (run (machine c) (test_of modes based) 20000 (code_first c input turns))

from_ending : (n : Next CodeCore) (o : List ℕ) (e : End) → ending n ≡ Some (o, e) → (l : State CodeCore) × (n ≡ Ends e l) × (l.out ≡ o)
from_ending (Goes s) o e h = cc
from_ending (Ends f s) o e h =
    let both : ◌≡◌ {A = List ℕ × End} (s.out, f) (o, e) = cc in
    (s, ap (λ p. Ends p.1 s) both, ap (λ p. p.0) both)

pub by_running : (c : Code) (modes : List (Variable × Mode)) (input : List ℕ) (turns : ℕ) (based : Bool) (out : List ℕ) (end : End) → found c modes input turns based ≡ Some (out, end) → CodeMeans c modes input turns based out end
by_running c modes input turns based out end h =
    let r = from_ending (run (machine c) (test_of modes based) 20000 (code_first c input turns)) out end h in
    record { steps = 20000; last = r.0; ends = r.1; written = r.2 }
