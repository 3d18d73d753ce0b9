-- How often a line was stored at, against a number of stores.
use Rattle.std.specs.Prelude.{◌≡◌, ◌<◌, ◌≤◌, ◌-◌, ℕ}
use Rattle.setl_debug_target.specs.Screens.{Screen}

-- so many after k turns
abbrev pub HasHits : (ℕ → Screen → Type 0) → (line hits k : ℕ) → Type 0
HasHits shows line hits k = (s : Screen) × shows k s × (hits ≡ s.hits line)

-- no more after k turns
abbrev pub IsLow : (ℕ → Screen → Type 0) → (line hits k : ℕ) → Type 0
IsLow shows line hits k = (s : Screen) × shows k s × (s.hits line ≤ hits)

-- more after k turns
abbrev pub IsHigh : (ℕ → Screen → Type 0) → (line hits k : ℕ) → Type 0
IsHigh shows line hits k = (s : Screen) × shows k s × (hits < s.hits line)

-- more after k turns, and not after one less
pub record Rises (shows : ℕ → Screen → Type 0) (line hits from end k : ℕ) : Type 0 where
  pub above : from < k
  pub within : k ≤ end
  pub low : IsLow shows line hits (k - 1)
  pub high : IsHigh shows line hits k
