-- How many numbers are among some words.
use Rattle.std.proofs.Common.{◌≡◌, ◌∙◌, ℕ, zero, suc, ◌+◌, ◌*◌, ◌/◌, ◌%◌, ◌^◌, ◌<◌, ◌≤◌, Bool, true, false, cond, ◌&&◌, List, [], ◌∷◌, length, filter, refl, sym, ap, arith, nat_eq, add-zero, add-suc, pow-suc, subst}
use Rattle.std.specs.Prelude.{count_ones, slice_index}
use Rattle.std.specs.Ordering.{nat_cmp}
use Rattle.std.specs.Int.{bit_at}
use Rattle.std.specs.List.{sum_by}
use Rattle.std.specs.Cmp.{nat_cmp_total}
use Rattle.std.specs.FinSet as set
use Rattle.std.proofs.lemmas.List.Sums.{sum_by-cons}
use Rattle.std.proofs.lemmas.Nat.{ones_le_self}
use Rattle.std.proofs.lemmas.Nat.Bits.{bit_at-suc, bit_at_lowest}
use lib.Count.{ones_step}
use Rattle.setl_remote.specs.Words.{has_bit, below, members}
use Rattle.setl_remote.proofs.Members.{among, not_in_below}

-- how many of the numbers below n pass
abbrev passing : (ℕ → Bool) → ℕ → ℕ
passing p zero = 0
passing p (suc n) = cond (p n) 1 0 + passing p n

passing-add : (p : ℕ → Bool) (m n : ℕ) → passing p (m + n) ≡ passing p m + passing (λ i. p (m + i)) n
passing-add p m zero = ap (passing p) (add-zero m) ∙ sym (add-zero (passing p m))
passing-add p m (suc n) =
    let rest = passing-add p m n in
    let step : passing p (m + suc n) ≡ cond (p (m + n)) 1 0 + passing p (m + n) = ap (passing p) (add-suc m n) in
    omega arith

passing-same : (p q : ℕ → Bool) (n : ℕ) → ((i : ℕ) → i < n → p i ≡ q i) → passing p n ≡ passing q n
passing-same p q zero same = refl
passing-same p q (suc n) same = λ i. cond (same n (omega arith) i) 1 0 + passing-same p q n (λ k h. same k (omega arith)) i

passing-low : (p : ℕ → Bool) (n : ℕ) → passing p (suc n) ≡ cond (p 0) 1 0 + passing (λ i. p (suc i)) n
passing-low p zero = refl
passing-low p (suc n) = let rest = passing-low p n in omega arith

-- the set of the numbers below n that pass has as many members
len_passing : (p : ℕ → Bool) (n : ℕ) → set.len (set.from_list {R = nat_cmp} (filter p (below n))) ≡ passing p n
len_passing p zero = set.len-empty nat_cmp
len_passing p (suc n) =
    elim (p n) as (λ b. set.len (set.from_list {R = nat_cmp} (cond b (n ∷ filter p (below n)) (filter p (below n)))) ≡ cond b 1 0 + passing p n) [
      | true ↦
          let fresh : set.contains (set.from_list {R = nat_cmp} (filter p (below n))) n ≡ false = among p n n ∙ ap (λ b. b && p n) (not_in_below n n (omega arith)) in
          let more = set.len-insert nat_cmp_total (set.from_list {R = nat_cmp} (filter p (below n))) n in
          let rest = len_passing p n in
          more ∙ ap (λ b. cond b (set.len (set.from_list {R = nat_cmp} (filter p (below n)))) (set.len (set.from_list {R = nat_cmp} (filter p (below n))) + 1)) fresh ∙ omega arith
      | false ↦ let rest = len_passing p n in rest ∙ omega arith
    ]

bit_value : (x : ℕ) → x < 2 → cond (nat_eq x 1) 1 0 ≡ x
bit_value zero h = refl
bit_value (suc zero) h = refl
bit_value (suc (suc x)) h = absurd (omega arith)

-- the ones of a word of d bits
word_passing : (d w : ℕ) → w < 2 ^ d → passing (λ i. nat_eq (bit_at w i) 1) d ≡ count_ones w
word_passing zero w h =
    let none : w ≡ 0 = omega arith in
    let few = ones_le_self 0 in
    let nothing : count_ones 0 ≡ 0 = omega arith in
    sym (ap count_ones none ∙ nothing)
word_passing (suc d) w h =
    let power = pow-suc 2 d in
    passing-low (λ i. nat_eq (bit_at w i) 1) d
    ∙ (λ j. cond (nat_eq (bit_at_lowest w j) 1) 1 0 + passing (λ i. nat_eq (bit_at-suc w i j) 1) d)
    ∙ (λ j. bit_value (w % 2) (omega arith) j + word_passing d (w / 2) (omega arith) j)
    ∙ sym (ones_step w)

passing-le : (p : ℕ → Bool) (n : ℕ) → passing p n ≤ n
passing-le p zero = omega arith
passing-le p (suc n) =
    let rest = passing-le p n in
    elim (p n) as (λ b. cond b 1 0 + passing p n ≤ suc n) [ true ↦ omega arith | false ↦ omega arith ]

pub ones_small : (w : ℕ) → w < 2 ^ 64 → count_ones w ≤ 64
ones_small w fits =
    let few = passing-le (λ i. nat_eq (bit_at w i) 1) 64 in
    subst (λ n. n ≤ 64) (word_passing 64 w fits) few

words_passing : (words : List ℕ) → ((k : ℕ) → slice_index words k < 2 ^ 64) → passing (has_bit words) (64 * length words) ≡ sum_by count_ones words
words_passing [] fit = refl
words_passing (w ∷ ws) fit =
    let size : 64 * length (w ∷ ws) ≡ 64 + 64 * length ws = omega arith in
    ap (passing (has_bit (w ∷ ws))) size
    ∙ passing-add (has_bit (w ∷ ws)) 64 (64 * length ws)
    ∙ (λ j. (passing-same (has_bit (w ∷ ws)) (λ i. nat_eq (bit_at w i) 1) 64 (λ i h. first i h) ∙ word_passing 64 w (fit 0)) j
    + (passing-same (λ i. has_bit (w ∷ ws) (64 + i)) (has_bit ws) (64 * length ws) (λ i h. later i) ∙ words_passing ws (λ k. fit (suc k))) j)
    ∙ sym (sum_by-cons count_ones w ws)
  where
    first : (i : ℕ) → i < 64 → has_bit (w ∷ ws) i ≡ nat_eq (bit_at w i) 1
    first i h =
        let place : i / 64 ≡ 0 = omega arith in
        let bit : i % 64 ≡ i = omega arith in
        λ j. nat_eq (bit_at (slice_index (w ∷ ws) (place j)) (bit j)) 1

    later : (i : ℕ) → has_bit (w ∷ ws) (64 + i) ≡ has_bit ws i
    later i =
        let place : (64 + i) / 64 ≡ suc (i / 64) = omega arith in
        let bit : (64 + i) % 64 ≡ i % 64 = omega arith in
        λ j. nat_eq (bit_at (slice_index (w ∷ ws) (place j)) (bit j)) 1

pub len-members : (words : List ℕ) → ((k : ℕ) → slice_index words k < 2 ^ 64) → set.len (members words) ≡ sum_by count_ones words
len-members words fit = len_passing (has_bit words) (64 * length words) ∙ words_passing words fit
