-- Binomial coefficients: each from the one before it on its diagonal.
use Rattle.std.specs.Prelude.{◌≡◌, ℕ, zero, suc, ◌+◌, ◌-◌, ◌*◌, ◌/◌, ◌<◌, ◌≤◌, refl}
use Rattle.std.proofs.Common.{ap, sym, ◌∙◌, arith, subst}
use Rattle.std.proofs.Math.Nat.{suc-mul, mul-suc, mul-add, mul_comm}
use Rattle.std.proofs.lemmas.Nat.{div-mul-add}
use Rattle.setl_operators_enumerations.specs.Counts.{choose}

-- (n + 1) times the number of n + 1 of m + 1 is (m + 1) times the number of n of m
absorbed : (m n : ℕ) → suc n * choose (suc m) (suc n) ≡ suc m * choose m n
absorbed zero zero = refl
absorbed zero (suc n) = omega (arith, mul-suc (suc (suc n)) 0)
absorbed (suc m) zero = omega (arith, absorbed m zero)
absorbed (suc m) (suc n) =
    let x = choose (suc m) (suc n) in
    let y = choose (suc m) (suc (suc n)) in
    omega (
      arith,
      absorbed m n,
      absorbed m (suc n),
      mul-add (suc (suc n)) x y,
      suc-mul (suc n) x,
      suc-mul (suc m) x,
      mul-add (suc m) (choose m n) (choose m (suc n)),
    )

quotient : (c d n : ℕ) → suc n * d ≡ c → c / suc n ≡ d
quotient c d n h = ap (λ k. k / suc n) {x = c} {y = d * suc n + 0} (omega (arith, mul_comm (suc n) d)) ∙ div-mul-add d (suc n) 0 (omega arith)

pub next_is : (m n c : ℕ) → c ≡ choose m n → c * (m + 1) / (n + 1) ≡ choose (m + 1) (n + 1)
next_is m n c e =
    let by_suc : c * suc m / suc n ≡ choose (suc m) (suc n) = quotient (c * suc m) (choose (suc m) (suc n)) n (absorbed m n ∙ mul_comm (suc m) (choose m n) ∙ ap (λ k. k * suc m) (sym e)) in
    subst (λ k. c * k / (n + 1) ≡ choose k (n + 1)) {x = suc m} {y = m + 1} (omega arith) (subst (λ k. c * suc m / k ≡ choose (suc m) k) {x = suc n} {y = n + 1} (omega arith) by_suc)

one_more : (m n : ℕ) → choose m n ≤ choose (m + 1) (n + 1)
one_more m n = subst (λ k. choose m n ≤ choose k (n + 1)) {x = suc m} {y = m + 1} (omega arith) (subst (λ k. choose m n ≤ choose (suc m) k) {x = suc n} {y = n + 1} (omega arith) (omega arith))

-- coefficients grow along a diagonal
pub grown : (r i k : ℕ) → choose (r + i) i ≤ choose (r + (i + k)) (i + k)
grown r i zero = subst (λ n. choose (r + i) i ≤ choose (r + n) n) {x = i} {y = i + 0} (omega arith) (omega arith)
grown r i (suc k) =
    subst (λ n. choose (r + i) i ≤ choose (r + n) n) {x = i + k + 1} {y = i + suc k} (omega arith)
    (subst (λ n. choose (r + i) i ≤ choose n (i + k + 1)) {x = r + (i + k) + 1} {y = r + (i + k + 1)} (omega arith) (omega (arith, grown r i k, one_more (r + (i + k)) (i + k))))

-- the whole coefficient is at least one on its diagonal
pub diagonal : (m n i : ℕ) → i ≤ n → n ≤ m → choose (m - n + i) i ≤ choose m n
diagonal m n i h l =
    subst (λ k. choose (m - n + i) i ≤ choose m k) {x = i + (n - i)} {y = n} (omega arith)
    (subst (λ k. choose (m - n + i) i ≤ choose k (i + (n - i))) {x = m - n + (i + (n - i))} {y = m} (omega arith) (grown (m - n) i (n - i)))

pub diagonal_next : (m n i : ℕ) → i < n → n ≤ m → choose (m - n + i + 1) (i + 1) ≤ choose m n
diagonal_next m n i h l = subst (λ k. choose k (i + 1) ≤ choose m n) {x = m - n + (i + 1)} {y = m - n + i + 1} (omega arith) (diagonal m n (i + 1) (omega arith) l)

pub none_above : (m n : ℕ) → m < n → choose m n ≡ 0
none_above m zero h = absurd (omega arith)
none_above zero (suc n) h = refl
none_above (suc m) (suc n) h = omega (arith, none_above m n (omega arith), none_above m (suc n) (omega arith))
