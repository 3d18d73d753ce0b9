-- Of the most turns, so many are left.
use Rattle.std.proofs.Common.{◌≡◌, ◌≤◌, ◌<◌, ◌+◌, ◌-◌, ℕ, arith}

pub difference : (most turns : ℕ) → turns ≤ most → most ≡ turns + (most - turns)
difference most turns h = omega arith

-- as many are left as there are more, where no more were taken than there are
pub enough_left : (most turns left taken : ℕ) → turns ≤ most → left ≤ most → taken ≡ most - left → taken ≤ turns → most - turns ≤ left
enough_left most turns left taken a b c d = omega arith

-- fewer are left where more were taken than there are
pub too_few_left : (most turns left control : ℕ) → left ≡ control → turns < most - control → left < most - turns
too_few_left most turns left control a b = omega arith
