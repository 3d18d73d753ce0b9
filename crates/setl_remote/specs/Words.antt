-- Words of 64 bits, as sets of numbers.
use Rattle.std.specs.Prelude.{◌≡◌, ℕ, zero, suc, ◌*◌, ◌/◌, ◌%◌, Bool, cond, nat_eq, List, [], ◌∷◌, length, slice_index, filter}
use Rattle.std.specs.Int.{bit_at}
use Rattle.std.specs.Ordering.{nat_cmp}
use Rattle.std.specs.List.{range_with_len}
use Rattle.std.specs.FinSet as set

-- whether the n-th bit is on, 64 to a word, the lowest first
abbrev pub has_bit : List ℕ → ℕ → Bool
has_bit words n = nat_eq (bit_at (slice_index words (n / 64)) (n % 64)) 1

-- the numbers below n, falling
abbrev pub below : ℕ → List ℕ
below zero = []
below (suc n) = n ∷ below n

-- the numbers whose bits are on
abbrev pub members : List ℕ → set.FinSet nat_cmp
members words = set.from_list (filter (has_bit words) (below (64 * length words)))

-- the numbers below n whose bits are on, rising
abbrev pub ones : List ℕ → ℕ → List ℕ
ones words n = filter (has_bit words) (range_with_len 0 n)

-- new has b as the n-th bit, and each other bit as old has it
abbrev pub Writes : ℕ → Bool → List ℕ → List ℕ → Type 0
Writes n b old new = (q : ℕ) → has_bit new q ≡ cond (nat_eq n q) b (has_bit old q)
