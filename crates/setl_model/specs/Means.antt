-- What a program means.
use Rattle.std.specs.Prelude.{◌≡◌, ℕ, Bool, false, List, [], ◌∷◌}
use Rattle.setl_model_runs.specs.Variable.{Variable}
use Rattle.setl_program.specs.Program.{Read, Block, more_stmts, Program}
use Rattle.setl_model_runs.specs.Events.{Printed, End}
use Rattle.setl_model_runs.specs.Run.{Moves, State, Goes, Ends, run}
use Rattle.setl_model.specs.Core.{Execute, Core}
use Rattle.setl_model.specs.Step.{language, test_of}

-- the first state: every variable is `om`, nothing is kept and nothing was written
abbrev pub first : Program → List ℕ → ℕ → State Core
first p input turns =
    record {
      core =
          record {
            shared = record { globals = []; own = []; world = record { input = input; eof = false; atom = 1; left = turns } };
            hand = Execute p.main;
            work = [];
            kept = [];
          };
      out = [];
      events = [];
    }

-- steps lead from the first state to this one
abbrev pub Reaches : Program → List ℕ → ℕ → Bool → State Core → Type 0
Reaches p input turns based s = (n : ℕ) × (run (language p) (test_of p.modes based) n (first p input turns) ≡ Goes s)

-- the run of a program on an input with so many turns ends so, after it wrote this output
pub record Means (p : Program) (input : List ℕ) (turns : ℕ) (based : Bool) (out : List ℕ) (end : End) : Type 0 where
  pub steps : ℕ
  pub last : State Core
  pub ends : run (language p) (test_of p.modes based) steps (first p input turns) ≡ Ends end last
  pub written : last.out ≡ out

-- a `print` with this line is in hand: the next step writes it and does nothing else but go on
pub record HasPrint (p : Program) (s : State Core) (line : List ℕ) : Type 0 where
  pub to : Core
  pub writes : (language p).move s.core ≡ Moves line (Printed line ∷ []) to 0 []

-- a `read` that has a value to read is in hand
pub record HasRead (s : State Core) : Type 0 where
  pub line : ℕ
  pub variable : Variable
  pub others : List Variable
  pub rest : Block
  pub in_hand : s.core.hand ≡ Execute (more_stmts line (Read (variable ∷ others)) rest)
