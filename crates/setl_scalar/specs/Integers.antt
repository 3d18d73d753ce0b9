-- What the operators on integers give, over the mathematical integers.
use Rattle.std.specs.Prelude.{◌≡◌, ℕ, zero, suc, ℤ, pos, negsuc, neg_ℤ, ◌+ℤ◌, ◌-ℤ◌, ◌*ℤ◌, ◌≤ℤ◌, ◌<ℤ◌, ◌<◌, ◌≤◌, ◌-◌, ◌^◌, Bool, nat_lt, if◌then◌else◌, Result, Ok, Err, unsigned_abs, int_div, refl}
use Rattle.std.specs.Int.{int_rem_euclid}
use Rattle.setl_scalar.specs.declared.ScalarFault.{ScalarFault}
use Rattle.setl_scalar.specs.declared.ScalarFault.TheVariants.{Wide, Zero, Range}

-- z stands from -2^127 to 2^127 - 1
abbrev pub fits : ℤ → Bool
fits (pos n) = nat_lt n (2 ^ 127)
fits (negsuc n) = nat_lt n (2 ^ 127)

-- z where it fits, and Wide where it doesn't
abbrev pub narrow : ℤ → Result ℤ ScalarFault
narrow z = if fits z then Ok z else Err Wide

abbrev pub add_of : ℤ → ℤ → Result ℤ ScalarFault
add_of a b = narrow (a +ℤ b)

abbrev pub sub_of : ℤ → ℤ → Result ℤ ScalarFault
sub_of a b = narrow (a -ℤ b)

abbrev pub mul_of : ℤ → ℤ → Result ℤ ScalarFault
mul_of a b = narrow (a *ℤ b)

abbrev pub neg_of : ℤ → Result ℤ ScalarFault
neg_of a = narrow (neg_ℤ a)

abbrev pub abs_of : ℤ → Result ℤ ScalarFault
abs_of a = narrow (pos (unsigned_abs a))

-- the product of n times a; no factor gives 1
abbrev pub power : ℤ → ℕ → ℤ
power a zero = pos 1
power a (suc n) = a *ℤ power a n

abbrev pub power_of : ℤ → ℤ → Result ℤ ScalarFault
power_of a (pos n) = narrow (power a n)
power_of a (negsuc n) = Err Range

-- the quotient, rounded towards 0
abbrev pub div_of : ℤ → ℤ → Result ℤ ScalarFault
div_of a (pos zero) = Err Zero
div_of a b = narrow (int_div a b)

-- the remainder that isn't negative
abbrev pub mod_of : ℤ → ℤ → Result ℤ ScalarFault
mod_of a (pos zero) = Err Zero
mod_of a b = Ok (int_rem_euclid a b)

-- ---- laws

-- q is a / b rounded towards 0: a and q * b are less than |b| apart, and q * b is no further from 0 than a
pub record IsTruncated (a b q : ℤ) : Type 0 where
  pub near : unsigned_abs (a -ℤ (q *ℤ b)) < unsigned_abs b
  pub towards_zero : unsigned_abs (q *ℤ b) ≤ unsigned_abs a

-- r is from 0 to below |b|, and b divides a - r
pub record IsRemainder (a b r : ℤ) : Type 0 where
  pub least : pos 0 ≤ℤ r
  pub below : r <ℤ pos (unsigned_abs b)
  pub divides : (q : ℤ) × (a -ℤ r ≡ q *ℤ b)

-- ---- examples

two_to_ten : power_of (pos 2) (pos 10) ≡ Ok (pos 1024)
two_to_ten = refl

no_factor : power_of (pos 0) (pos 0) ≡ Ok (pos 1)
no_factor = refl

least_power : power_of (negsuc 1) (pos 127) ≡ Ok (negsuc (2 ^ 127 - 1))
least_power = refl

just_too_wide : power_of (pos 2) (pos 127) ≡ Err Wide
just_too_wide = refl

truncated : div_of (negsuc 6) (pos 2) ≡ Ok (negsuc 2)
truncated = refl

never_negative : mod_of (negsuc 6) (pos 2) ≡ Ok (pos 1)
never_negative = refl

least_by_minus_one : mod_of (negsuc (2 ^ 127 - 1)) (negsuc 0) ≡ Ok (pos 0)
least_by_minus_one = refl
