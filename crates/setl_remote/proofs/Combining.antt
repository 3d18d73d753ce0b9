-- Words that are made of two lists of words.
use Rattle.std.proofs.Common.{◌≡◌, ◌∙◌, ℕ, ◌/◌, ◌%◌, ◌^◌, ◌<◌, ◌≤◌, false, inl, inr, List, [], ◌∷◌, ◌++◌, length, length-append, sym, ap, arith, nat_eq}
use Rattle.std.specs.Prelude.{max, slice_index}
use Rattle.std.specs.Int.{bit_at}
use Rattle.std.specs.Ordering.{nat_cmp}
use Rattle.std.specs.FinSet as set
use Rattle.std.proofs.lemmas.Bool.{cases_lt}
use Rattle.std.proofs.lemmas.List.{get_or_past, get_or_append_left}
use Rattle.std.proofs.lemmas.Nat.Bits.{bit_at-zero}
use Rattle.std.proofs.Math.Seq.{get_or-append_seam}
use Rattle.setl_remote.specs.Words.{has_bit, members}
use Rattle.setl_remote.specs.Operation.{word_of, keeps}
use Rattle.setl_remote.specs.declared.combine.Operation.{Operation}
use Rattle.setl_remote.proofs.Bit.{operation_bit, nothing_kept}
use Rattle.setl_remote.proofs.Members.{members_at}

-- the first words are made of those of two lists
abbrev pub IsMadeOf : Operation → List ℕ → List ℕ → List ℕ → Type 0
IsMadeOf operation xs ys words = (k : ℕ) → k < length words → slice_index words k ≡ word_of operation (slice_index xs k) (slice_index ys k)

pub made_more : (operation : Operation) (xs ys words : List ℕ) (i w : ℕ) → length words ≡ i → w ≡ word_of operation (slice_index xs i) (slice_index ys i)
    → IsMadeOf operation xs ys words → IsMadeOf operation xs ys (words ++ w ∷ [])
made_more operation xs ys words i w len is made k below =
    elim (cases_lt k (length words)) as (λ _. slice_index (words ++ w ∷ []) k ≡ word_of operation (slice_index xs k) (slice_index ys k)) [
      | inl less ↦ get_or_append_left words (w ∷ []) 0 k less ∙ made k less
      | inr more ↦
          let last : k ≡ length words = omega (arith, length-append words (w ∷ [])) in
          let place : k ≡ i = omega arith in
          ap (slice_index (words ++ w ∷ [])) last ∙ get_or-append_seam words w [] 0 ∙ is ∙ ap (λ j. word_of operation (slice_index xs j) (slice_index ys j)) (sym place)
    ]

pub made_bits : (operation : Operation) (xs ys words : List ℕ) → length words ≡ max (length xs) (length ys) → ((k : ℕ) → slice_index ys k < 2 ^ 64)
    → IsMadeOf operation xs ys words → (n : ℕ) → has_bit words n ≡ keeps operation (has_bit xs n) (has_bit ys n)
made_bits operation xs ys words len fit made n =
    elim (cases_lt (n / 64) (length words)) as (λ _. has_bit words n ≡ keeps operation (has_bit xs n) (has_bit ys n)) [
      | inl less ↦
          ap (λ w. nat_eq (bit_at w (n % 64)) 1) (made (n / 64) less)
          ∙ operation_bit operation (slice_index xs (n / 64)) (slice_index ys (n / 64)) (n % 64) (fit (n / 64)) (omega arith)
      | inr more ↦
          past words more ∙ sym ((λ i. keeps operation (past xs (omega arith) i) (past ys (omega arith) i)) ∙ nothing_kept operation)
    ]
  where
    past : (ws : List ℕ) → length ws ≤ n / 64 → has_bit ws n ≡ false
    past ws h = ap (λ w. nat_eq (bit_at w (n % 64)) 1) (get_or_past ws (n / 64) 0 h) ∙ ap (λ b. nat_eq b 1) (bit_at-zero (n % 64))

-- the set that the words stand for
pub made_members : (operation : Operation) (xs ys words : List ℕ) (s t : set.FinSet nat_cmp) → members xs ≡ s → members ys ≡ t
    → ((n : ℕ) → has_bit words n ≡ keeps operation (has_bit xs n) (has_bit ys n)) → (q : ℕ)
    → set.contains (members words) q ≡ keeps operation (set.contains s q) (set.contains t q)
made_members operation xs ys words s t first second bits q =
    members_at words q
    ∙ bits q
    ∙ (λ i. keeps operation ((sym (members_at xs q) ∙ ap (λ u. set.contains u q) first) i) ((sym (members_at ys q) ∙ ap (λ u. set.contains u q) second) i))
