-- An input in memory.
use Rattle.std.specs.Prelude.{◌≡◌, ℕ, List, length, min, ⊤}
use Rattle.setl_io.specs.code.Plan.{Plan}
use Rattle.setl_io.specs.declared.outside.Took.{Took}
use Rattle.setl_io.specs.declared.outside.Took.TheVariants.{Bytes, End, Failed}

-- the bytes left, how many of them come in a call at most, and which calls fail
pub record MemSourceState : Type 0 where
  pub left : List ℕ
  pub piece : ℕ
  pub plan : Plan

-- as many bytes came as were left and the room takes, up to `most`
abbrev pub GivesUpTo : ℕ → List ℕ → List ℕ → Took → Type 0
GivesUpTo most left into (Bytes n) = n ≡ min (min (length left) (length into)) most
GivesUpTo most left into End = ⊤
GivesUpTo most left into Failed = ⊤

-- how many bytes came
abbrev pub count_given : Took → ℕ
count_given (Bytes n) = n
count_given End = 0
count_given Failed = 0
