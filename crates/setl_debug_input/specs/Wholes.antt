-- What the reading of a whole input does.
use Rattle.std.specs.Prelude.{◌≡◌, ◌<◌, ◌≤◌, ℕ, List, length, Option, IfSome}
use Rattle.std.specs.Io.KnownBytes.{Consumes}
use Rattle.setl_io.specs.Faults.{Rose}
use Rattle.setl_debug_input.specs.declared.whole.Whole.{Whole}
use Rattle.setl_debug_input.specs.declared.whole.Whole.TheVariants.{Bytes, TooLong, Failed, NoMemory}

-- some bytes were taken off the front
abbrev pub TakesSome : Option (List ℕ) → Option (List ℕ) → Type 0
TakesSome old new = (taken : List ℕ) × Consumes old new taken

-- All bytes that were left were taken, at most as many as the limit; or more than these.
abbrev pub ReadsWhole : ℕ → Option (List ℕ) → Option (List ℕ) → Whole → Type 0
ReadsWhole limit old new (Bytes all) = IfSome old (λ xs. all.items ≡ xs) × Consumes old new all.items × (length all.items ≤ limit)
ReadsWhole limit old new TooLong = (taken : List ℕ) × Consumes old new taken × (limit < length taken)
ReadsWhole limit old new Failed = TakesSome old new
ReadsWhole limit old new NoMemory = TakesSome old new

-- `Failed` is counted, and no other answer is
abbrev pub CountsWhole : ℕ → ℕ → Whole → Type 0
CountsWhole before now (Bytes all) = now ≡ before
CountsWhole before now TooLong = now ≡ before
CountsWhole before now Failed = Rose before now
CountsWhole before now NoMemory = now ≡ before
