-- What the states of a run of code are to what is run.
use Rattle.std.proofs.Common.{◌≡◌, ◌<◌, ℕ, Bool, true, false, List, [], length, if◌then◌else◌, refl, subst}
use Rattle.setl_model_runs.specs.Events as run
use Rattle.setl_model_runs.specs.Run.{State, Next, Goes, Ends, Test, run as runs, step}
use Rattle.setl_model.specs.Entered.{entered}
use Rattle.setl_model.specs.Step.{test_of}
use Rattle.setl_code.specs.Code.{Code}
use Rattle.setl_code.specs.CodeCore.{CodeCore}
use Rattle.setl_code.specs.CodeMeans.{code_first}
use Rattle.setl_code.specs.Machine.{machine}
use Rattle.setl_code_layout.specs.Layout.{code_layout}
use Rattle.setl_machine_control.specs.Answers.{said, start}
use Rattle.setl_machine_control.specs.Declaring.{Modes, tested}
use Rattle.setl_machine.specs.Outcome.{AtPrint, AtRead}
use Rattle.setl_top.specs.Runnable.{Runnable, bases_by, declared_by, Meant, IsAt, Printing, Reading}
use Rattle.setl_top.specs.code.Runs.{counted}
use Rattle.setl_top_words.specs.Words.{Options}

-- the declarations that count make the test of the meaning
counts : (based : Bool) (modes : Modes) → tested (if based then modes else []) ≡ test_of modes based
counts true modes = refl
counts false modes = refl

module _ (r : Runnable) (c : Code) (asked : Options) (input : List ℕ) where
  -- which values each variable takes
  abbrev pub Taken : Test
  Taken = tested (counted asked r)

  -- the code's run so far
  abbrev pub coded : ℕ → Next CodeCore
  coded n = runs (machine c) Taken n (code_first c input asked.turns)

  -- it tests as the meaning does
  pub as_meant : (n : ℕ) (x : Next CodeCore) → coded n ≡ x → runs (machine c) (test_of (declared_by r) asked.based) n (code_first c input asked.turns) ≡ x
  as_meant n x h = subst (λ t. runs (machine c) t n (code_first c input asked.turns) ≡ x) (counts asked.based (declared_by r)) h

  abbrev pub Came : State CodeCore → Type 0
  Came s = (n : ℕ) × (coded n ≡ Goes s)

  -- a print is in hand, and what is left of the input there
  pub record PrintsThere (s : State CodeCore) (line : List ℕ) : Type 0 where
    pub still : List ℕ
    pub at : Printing r input asked.turns asked.based s.out line still
    pub same : s.core.world.input ≡ still

  -- the run's end
  pub record EndsThere (s : State CodeCore) (e : run.End) : Type 0 where
    pub means : Meant r input asked.turns asked.based s.out e
    pub events : means.events ≡ s.events
    pub left : means.left ≡ s.core.world.input
    pub dump : means.dump ≡ code_layout (bases_by r) (declared_by r) (λ b. entered (declared_by r) b s.events) s.core

  -- The states of the code's run are states of what is run, its reads and prints are there, and it ends as that does.
  pub record Stands : Type 0 where
    pub state : (s : State CodeCore) → Came s → IsAt r input asked.turns asked.based s.out
    pub read : (s : State CodeCore) → Came s → AtRead c s.core → Reading r input asked.turns asked.based s.out
    pub print : (s : State CodeCore) → Came s → AtPrint c s.core → (line : List ℕ) → line ≡ said (step (machine c) Taken (start s.core)) → 0 < length line → PrintsThere s line
    pub ends : (n : ℕ) (e : run.End) (s : State CodeCore) → coded n ≡ Ends e s → EndsThere s e
    pub never : (n : ℕ) (s : State CodeCore) → coded n ≡ Ends run.Stuck s → ⊥
