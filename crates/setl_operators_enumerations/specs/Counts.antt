-- How many members a range or a set of subsets has.
use Rattle.std.specs.Prelude.{◌≡◌, ℕ, zero, suc, ◌+◌, ◌<◌, ◌≤◌, Option, Some, None, refl}

-- the count n where it is at most `turns`, and None where it is more
abbrev pub IsCount : Option ℕ → ℕ → ℕ → Type 0
IsCount None turns n = turns < n
IsCount (Some c) turns n = (c ≡ n) × (n ≤ turns)

-- how many subsets with n members a set with m members has, by Pascal's rule
abbrev pub choose : ℕ → ℕ → ℕ
choose m zero = 1
choose zero (suc n) = 0
choose (suc m) (suc n) = choose m n + choose m (suc n)

pairs_of_four : choose 4 2 ≡ 6
pairs_of_four = refl
