-- Integers that are one step apart.
use Rattle.std.specs.Prelude.{ℕ, zero, suc, ℤ, ◌+ℤ◌}
use Rattle.std.specs.Int.RustNames.{FitsSigned}
use Rattle.std.specs.Int.{w128}

-- each of n integers from a on, each `by` more than the one before, fits 128 bits
abbrev pub AreWide : ℤ → ℤ → ℕ → Type 0
AreWide a by zero = Unit {0}
AreWide a by (suc n) = FitsSigned w128 a × AreWide (a +ℤ by) by n
