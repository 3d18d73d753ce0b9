-- Powers grow: past one that doesn't fit, none does.
use Rattle.std.specs.Prelude.{◌≡◌, ℕ, ℤ, pos, negsuc, neg_ℤ, zero, suc, ◌+◌, ◌*◌, ◌-◌, ◌^◌, ◌<◌, ◌≤◌, ◌*ℤ◌, Bool, true, false, Ok, Err, unsigned_abs, cond, refl}
use Rattle.std.proofs.Common.{ap, sym, ◌∙◌, arith, subst}
use Rattle.std.proofs.lemmas.Int.{unsigned_abs-mul}
use Rattle.std.proofs.lemmas.Nat.{pow-add, mul-le}
use Rattle.std.proofs.Math.Nat.{one-le-pow, pow-le-pow_left, pow-succ', pow-zero}
use Rattle.std.proofs.Math.IntN.{*ℤ_comm}
use Rattle.std.proofs.lemmas.Bool.Decides.{nat_tests}
use Rattle.setl_scalar.specs.declared.ScalarFault.{ScalarFault}
use Rattle.setl_scalar.specs.declared.ScalarFault.TheVariants.{Wide}
use Rattle.setl_scalar.specs.Integers.{narrow, fits, power}
use Rattle.setl_scalar.proofs.Products.{mul_assoc}

one-mul : (z : ℤ) → pos 1 *ℤ z ≡ z
one-mul (pos n) = ap pos (omega arith)
one-mul (negsuc n) = ap (λ t. neg_ℤ (pos t)) {y = suc n} (omega arith)

pub power-add : (a : ℤ) (m n : ℕ) → power a (m + n) ≡ power a m *ℤ power a n
power-add a zero n = ap (power a) (omega arith) ∙ sym (one-mul (power a n))
power-add a (suc m) n =
    ap (power a) {y = suc (m + n)} (omega arith) ∙ ap (λ t. a *ℤ t) (power-add a m n) ∙ sym (mul_assoc a (power a m) (power a n))

power-size : (a : ℤ) (n : ℕ) → unsigned_abs (power a n) ≡ unsigned_abs a ^ n
power-size a zero = sym (pow-zero (unsigned_abs a))
power-size a (suc n) = unsigned_abs-mul a (power a n) ∙ ap (λ t. unsigned_abs a * t) (power-size a n) ∙ sym (pow-succ' (unsigned_abs a) n)

-- a number that doesn't fit is this large, and one beyond it doesn't fit
large : (z : ℤ) → fits z ≡ false → 2 ^ 127 ≤ unsigned_abs z
large (pos n) h = grind (arith, nat_tests)
large (negsuc n) h = grind (arith, nat_tests)

too_large : (z : ℤ) → 2 ^ 127 < unsigned_abs z → fits z ≡ false
too_large (pos n) h = grind (arith, nat_tests)
too_large (negsuc n) h = grind (arith, nat_tests)

-- where a power of x is as large as this, x is at least 2, so the next power is larger
one-pow : (m : ℕ) → 1 ^ m ≡ 1
one-pow zero = pow-zero 1
one-pow (suc m) = pow-succ' 1 m ∙ omega (arith, one-pow m)

base_above_one : (x m : ℕ) → 2 ^ 127 ≤ x ^ m → 2 ≤ x
base_above_one zero m h = absurd (omega (arith, pow-le-pow_left {n = 0} {m = 1} (omega arith) m, one-pow m))
base_above_one (suc zero) m h = absurd (omega (arith, one-pow m))
base_above_one (suc (suc x)) m h = omega arith

size_grows : (x m k : ℕ) → 2 ^ 127 ≤ x ^ m → 2 ^ 127 < x ^ (m + suc k)
size_grows x m k h =
    let base = base_above_one x m h in
    let rest = mul-le 2 1 x (x ^ k) base (one-le-pow k x (omega (arith, base))) in
    let more = mul-le (2 ^ 127) 2 (x ^ m) (x ^ suc k) h (omega (arith, rest, pow-succ' x k)) in
    omega (arith, more, pow-add x m (suc k))

pub unfit_grows : (a : ℤ) (m k : ℕ) → fits (power a m) ≡ false → fits (power a (m + suc k)) ≡ false
unfit_grows a m k h =
    too_large (power a (m + suc k))
    (subst (λ t. 2 ^ 127 < t) (sym (power-size a (m + suc k)))
    (size_grows (unsigned_abs a) m k (subst (λ t. 2 ^ 127 ≤ t) (power-size a m) (large (power a m) h))))

unfit_from_err : (z : ℤ) (e : ScalarFault) → Err e ≡ narrow z → (fits z ≡ false) × (e ≡ Wide)
unfit_from_err z e h = go (fits z) refl h
  where
    go : (b : Bool) → b ≡ fits z → Err e ≡ cond b (Ok z) (Err Wide) → (fits z ≡ false) × (e ≡ Wide)
    go true p h = absurd (cc)
    go false p h = (sym p, cc)

fit_from_ok : (z v : ℤ) → Ok v ≡ narrow z → v ≡ z
fit_from_ok z v h = go (fits z) h
  where
    go : (b : Bool) → Ok v ≡ cond b (Ok z) (Err Wide) → v ≡ z
    go true h = cc
    go false h = cc

-- a refused power refuses each higher one
refused_past : (a : ℤ) (m k : ℕ) (e : ScalarFault) → Err e ≡ narrow (power a m) → Err e ≡ narrow (power a (m + k))
refused_past a m zero e h = h ∙ ap (λ t. narrow (power a t)) (omega arith)
refused_past a m (suc k) e h =
    let u = unfit_from_err (power a m) e h in
    ap Err u.1 ∙ sym (ap (λ b. cond b (Ok (power a (m + suc k))) (Err Wide)) (unfit_grows a m k u.0))

pub refused : (a : ℤ) (m n : ℕ) (e : ScalarFault) → m ≤ n → Err e ≡ narrow (power a m) → Err e ≡ narrow (power a n)
refused a m n e le h = refused_past a m (n - m) e h ∙ ap (λ t. narrow (power a t)) (omega arith)

-- the square of the power to h, and that times the base
square_is : (a : ℤ) (h : ℕ) (root : ℤ) → Ok root ≡ narrow (power a h) → root *ℤ root ≡ power a (h + h)
square_is a h root p = let q = fit_from_ok (power a h) root p in (λ i. q i *ℤ q i) ∙ sym (power-add a h h)

pub refused_square : (a : ℤ) (h n : ℕ) (root : ℤ) (e : ScalarFault) → h + h ≤ n → Ok root ≡ narrow (power a h) → Err e ≡ narrow (root *ℤ root) → Err e ≡ narrow (power a n)
refused_square a h n root e le p q = refused a (h + h) n e le (q ∙ ap narrow (square_is a h root p))

pub even_power : (a : ℤ) (h n : ℕ) (root square : ℤ) → n ≡ h + h → Ok root ≡ narrow (power a h) → Ok square ≡ narrow (root *ℤ root) → Ok square ≡ narrow (power a n)
even_power a h n root square e p q = q ∙ ap narrow (square_is a h root p) ∙ ap (λ t. narrow (power a t)) (sym e)

pub odd_power : (a : ℤ) (h n : ℕ) (root square : ℤ) → n ≡ suc (h + h) → Ok root ≡ narrow (power a h) → Ok square ≡ narrow (root *ℤ root) → narrow (square *ℤ a) ≡ narrow (power a n)
odd_power a h n root square e p q =
    ap narrow (*ℤ_comm square a ∙ ap (λ t. a *ℤ t) (fit_from_ok (root *ℤ root) square q ∙ square_is a h root p) ∙ ap (power a) (sym e))
