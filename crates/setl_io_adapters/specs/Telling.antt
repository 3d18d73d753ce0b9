-- What an adapter tells of a reader.
use Rattle.std.specs.Prelude.{ℕ, Bool, List, Option, Some, None, cond, nat_lt}
use Rattle.std.specs.List.{list_all}

-- whether each of these numbers is a byte
abbrev pub are_bytes : List ℕ → Bool
are_bytes bs = list_all (λ b. nat_lt b 256) bs

-- what a reader tells, where that is bytes
abbrev pub only_bytes : Option (List ℕ) → Option (List ℕ)
only_bytes None = None
only_bytes (Some bs) = cond (are_bytes bs) (Some bs) None
