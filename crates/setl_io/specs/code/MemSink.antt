-- An output in memory.
use Rattle.std.specs.Prelude.{◌≡◌, ℕ, ◌==◌, List, [], Bool, ◌||◌, ◌&&◌, not, length, min, take, ⊤}
use Rattle.setl_io.specs.code.Plan.{Plan, is_to_fail}
use Rattle.setl_io.specs.declared.outside.Put.{Put}
use Rattle.setl_io.specs.declared.outside.Put.TheVariants.{Took, Failed, NoMemory}

-- the bytes held, how many it takes in a call at most, how many pieces there were, up to 2^64 - 1, and which calls fail
pub record MemSinkState : Type 0 where
  pub held : List ℕ
  pub most : ℕ
  pub pieces : ℕ
  pub plan : Plan

-- the write of this piece is a fault: the call is to fail, or no byte of a piece that isn't empty can be taken
abbrev pub write_fails : MemSinkState → List ℕ → Bool
write_fails sink piece = is_to_fail sink.plan || ((min (length piece) sink.most == 0) && not (length piece == 0))

-- as many bytes were taken as there are, up to `most`
abbrev pub TakesUpTo : ℕ → List ℕ → Put → Type 0
TakesUpTo most piece (Took n) = n ≡ min (length piece) most
TakesUpTo most piece Failed = ⊤
TakesUpTo most piece NoMemory = ⊤

-- the bytes that were taken
abbrev pub bytes_taken : List ℕ → Put → List ℕ
bytes_taken piece (Took n) = take n piece
bytes_taken piece Failed = []
bytes_taken piece NoMemory = []
