-- The numbers whose bits are on, as a list.
use Rattle.std.proofs.Common.{◌≡◌, ◌∙◌, ℕ, zero, suc, ◌+◌, ◌*◌, ◌/◌, ◌%◌, ◌^◌, ◌<◌, ◌≤◌, Bool, true, false, cond, List, [], ◌∷◌, ◌++◌, length, filter, get_or, refl, sym, ap, arith, nat_eq, if◌then◌else◌}
use Rattle.std.specs.Prelude.{slice_index}
use Rattle.std.specs.Ordering.{nat_cmp}
use Rattle.std.specs.Int.{bit_at}
use Rattle.std.specs.List.{range_with_len}
use Rattle.std.specs.List.Sorted.{IsStrictlyIncreasing}
use Rattle.std.specs.Cmp.{nat_cmp_total}
use Rattle.std.specs.FinSet as set
use Rattle.std.proofs.lemmas.List.{append-nil}
use Rattle.std.proofs.lemmas.List.Elements.{filter-append}
use Rattle.std.proofs.lemmas.List.FromFn.{get_or-range_with_len, length-range_with_len}
use Rattle.std.proofs.lemmas.List.Kept.{IsStrictlyIncreasing-filter}
use Rattle.std.proofs.lemmas.Nat.Bits.{bit_at-zero}
use Rattle.setl_remote.specs.Words.{has_bit, below, members, ones}

range_more : (a n : ℕ) → range_with_len a (n + 1) ≡ range_with_len a n ++ (a + n) ∷ []
range_more a zero = let e : a ≡ a + 0 = omega arith in ap (λ m. m ∷ []) e
range_more a (suc n) =
    let up : suc n + 1 ≡ suc (n + 1) = omega arith in
    let last : (a + 1) + n ≡ a + suc n = omega arith in
    ap (range_with_len a) up ∙ ap (λ l. a ∷ l) (range_more (a + 1) n ∙ ap (λ m. range_with_len (a + 1) n ++ m ∷ []) last)

kept : (b : Bool) (xs : List ℕ) (n : ℕ) → xs ++ cond b (n ∷ []) [] ≡ (if b then xs ++ n ∷ [] else xs)
kept true xs n = refl
kept false xs n = append-nil xs

-- one number more
pub ones_more : (words : List ℕ) (n : ℕ) → ones words (n + 1) ≡ (if has_bit words n then ones words n ++ n ∷ [] else ones words n)
ones_more words n =
    let last : 0 + n ≡ n = omega arith in
    ap (filter (has_bit words)) (range_more 0 n ∙ ap (λ m. range_with_len 0 n ++ m ∷ []) last)
    ∙ filter-append (has_bit words) (range_with_len 0 n) (n ∷ [])
    ∙ kept (has_bit words n) (ones words n) n

none_more : (words : List ℕ) (n k : ℕ) → ((q : ℕ) → n ≤ q → q < n + k → has_bit words q ≡ false) → ones words (n + k) ≡ ones words n
none_more words n zero off = let e : n + 0 ≡ n = omega arith in ap (ones words) e
none_more words n (suc k) off =
    let e : n + suc k ≡ (n + k) + 1 = omega arith in
    ap (ones words) e
    ∙ ones_more words (n + k)
    ∙ ap (λ b. if b then ones words (n + k) ++ (n + k) ∷ [] else ones words (n + k)) (off (n + k) (omega arith) (omega arith))
    ∙ none_more words n k (λ q low high. off q low (omega arith))

-- a word that is 0 has no number
pub nothing_on : (words : List ℕ) (i : ℕ) → slice_index words i ≡ 0 → ones words (64 * (i + 1)) ≡ ones words (64 * i)
nothing_on words i is =
    let e : 64 * (i + 1) ≡ 64 * i + 64 = omega arith in
    ap (ones words) e ∙ none_more words (64 * i) 64 (λ q low high. off q (omega arith))
  where
    off : (q : ℕ) → q / 64 ≡ i → has_bit words q ≡ false
    off q at = ap (λ j. nat_eq (bit_at (slice_index words j) (q % 64)) 1) at ∙ ap (λ w. nat_eq (bit_at w (q % 64)) 1) is ∙ ap (λ b. nat_eq b 1) (bit_at-zero (q % 64))

pub ones_rise : (words : List ℕ) (n : ℕ) → IsStrictlyIncreasing (ones words n)
ones_rise words n = IsStrictlyIncreasing-filter (has_bit words) (range_with_len 0 n) (λ k h.
    let long = length-range_with_len 0 n in
    let one = get_or-range_with_len 0 n k 0 (omega arith) in
    let other = get_or-range_with_len 0 n (k + 1) 0 (omega arith) in
    omega arith)

same_by : (words : List ℕ) (n : ℕ) (b : Bool) → set.from_list {R = nat_cmp} (ones words n) ≡ set.from_list (filter (has_bit words) (below n))
    → set.from_list {R = nat_cmp} (if b then ones words n ++ n ∷ [] else ones words n) ≡ set.from_list (cond b (n ∷ filter (has_bit words) (below n)) (filter (has_bit words) (below n)))
same_by words n true same = set.from_list_push nat_cmp_total set.nat_cmp-IsAntisymmetric (ones words n) n ∙ ap (λ s. set.insert s n) same
same_by words n false same = same

-- rising or falling, they are one set
same_numbers : (words : List ℕ) (n : ℕ) → set.from_list {R = nat_cmp} (ones words n) ≡ set.from_list (filter (has_bit words) (below n))
same_numbers words zero = refl
same_numbers words (suc n) =
    let e : suc n ≡ n + 1 = omega arith in
    ap (λ m. set.from_list {R = nat_cmp} (ones words m)) e
    ∙ ap set.from_list (ones_more words n)
    ∙ same_by words n (has_bit words n) (same_numbers words n)

pub ones_are_members : (words : List ℕ) (n : ℕ) → n ≡ length words → set.from_list (ones words (64 * n)) ≡ members words
ones_are_members words n e = same_numbers words (64 * n) ∙ ap (λ m. set.from_list (filter (has_bit words) (below (64 * m)))) e
