-- The remainder that isn't negative leaves a multiple of the divisor.
use Rattle.std.specs.Prelude.{◌≡◌, ℕ, ℤ, pos, negsuc, zero, suc, neg_ℤ, ◌-ℤ◌, ◌*ℤ◌, ◌≤ℤ◌, ◌<ℤ◌, ◌<◌, ◌*◌, ◌/◌, unsigned_abs}
use Rattle.std.proofs.Common.{ap, ◌∙◌, arith}
use Rattle.std.proofs.lemmas.Int.{ints}
use Rattle.std.proofs.lemmas.Nat.{div-add-mod', mod_below}
use Rattle.std.specs.Int.{int_rem_euclid, int_div_euclid}
use Rattle.setl_scalar.specs.Integers.{IsRemainder}

neg-mul-negsuc : (m n : ℕ) → neg_ℤ (pos m) *ℤ negsuc n ≡ pos (m * suc n)
neg-mul-negsuc zero n = ap (λ t. neg_ℤ (pos t)) {y = 0} (omega arith) ∙ ap pos (omega arith)
neg-mul-negsuc (suc m) n = ap pos (omega arith)

quotient : (a b : ℤ) → 0 < unsigned_abs b → a -ℤ int_rem_euclid a b ≡ int_div_euclid a b *ℤ b
quotient (pos m) (pos n) h = omega (arith, ints, div-add-mod' m n)
quotient (pos m) (negsuc n) h = omega (arith, ints, div-add-mod' m (suc n), neg-mul-negsuc (m / suc n) n)
quotient (negsuc m) (pos n) h = omega (arith, ints, div-add-mod' m n, mod_below m n h)
quotient (negsuc m) (negsuc n) h = omega (arith, ints, div-add-mod' m (suc n), mod_below m (suc n) h)

pub remainder : (a b : ℤ) → 0 < unsigned_abs b → IsRemainder a b (int_rem_euclid a b)
remainder a b h = record { least = least a b; below = below a b h; divides = (int_div_euclid a b, quotient a b h) }
  where
    least : (a b : ℤ) → pos 0 ≤ℤ int_rem_euclid a b
    least (pos m) b = omega (arith, ints)
    least (negsuc m) b = omega (arith, ints)

    below : (a b : ℤ) → 0 < unsigned_abs b → int_rem_euclid a b <ℤ pos (unsigned_abs b)
    below (pos m) b h = omega (arith, ints, mod_below m (unsigned_abs b) h)
    below (negsuc m) b h = omega (arith, ints, h)
