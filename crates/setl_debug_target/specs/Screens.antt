-- What is seen of a run after so many turns.
use Rattle.std.specs.Prelude.{ℕ, List, Option, Some, None}

-- A screen: the lines that tell where the program is and what its variables hold, what it has written, the lines of the
-- calls of its procedures, and how often each line of the source was stored at, up to 2^64 - 1.
pub record Screen : Type 0 where
  pub shown : List ℕ
  pub written : List ℕ
  pub profile : List ℕ
  pub hits : ℕ → ℕ

-- where a target stands: after so many turns, with the stores at one line counted
pub record Stand : Type 0 where
  pub turns : ℕ
  pub line : ℕ

-- this holds of a screen of the run at the place where the target stands
abbrev pub Sees : (ℕ → Screen → Type 0) → Option Stand → (Stand → Screen → Type 0) → Type 0
Sees shows None P = ⊥
Sees shows (Some stand) P = (s : Screen) × shows stand.turns s × P stand s
