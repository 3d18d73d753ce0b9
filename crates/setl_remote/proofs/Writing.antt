-- A bit that is written into words.
use Rattle.std.proofs.Common.{◌≡◌, ◌∙◌, ℕ, ◌*◌, ◌/◌, ◌%◌, ◌^◌, ◌<◌, Bool, true, false, cond, inl, inr, ◌≢◌, List, length, get_or, set, sym, ap, arith, nat_eq, w64}
use Rattle.std.specs.Prelude.{slice_index, bit_and, bit_or}
use Rattle.std.specs.Int.{bit_at, bit_not}
use Rattle.std.proofs.lemmas.List.{get_or-set_other, get_or-set_same}
use Rattle.std.proofs.lemmas.Nat.Bits.{bit_at_set_same, bit_at_set_other, bit_at_clear_same, bit_at_clear_other}
use Rattle.std.proofs.lemmas.Option.{slice_get-get_or}
use Rattle.setl_remote.specs.Words.{has_bit, Writes}
use Rattle.setl_remote.proofs.Bit.{apart, itself, same_or_not}

-- the word of the number becomes v, which has its bit as b and all others as they were
word_written : (words : List ℕ) (n : ℕ) (b : Bool) (v : ℕ) → n / 64 < length words → nat_eq (bit_at v (n % 64)) 1 ≡ b
    → ((k : ℕ) → k < 64 → k ≢ n % 64 → bit_at v k ≡ bit_at (slice_index words (n / 64)) k) → Writes n b words (set words (n / 64) v)
word_written words n b v within here others q =
    elim (same_or_not (q / 64) (n / 64)) as (λ _. has_bit (set words (n / 64) v) q ≡ cond (nat_eq n q) b (has_bit words q)) [
      | inl place ↦
          ap (λ i. nat_eq (bit_at (get_or (set words (n / 64) v) i 0) (q % 64)) 1) place
          ∙ ap (λ w. nat_eq (bit_at w (q % 64)) 1) (get_or-set_same words (n / 64) v 0 within)
          ∙ elim (same_or_not (q % 64) (n % 64)) as (λ _. nat_eq (bit_at v (q % 64)) 1 ≡ cond (nat_eq n q) b (has_bit words q)) [
            | inl bit ↦
                let e : n ≡ q = omega arith in
                ap (λ k. nat_eq (bit_at v k) 1) bit ∙ here ∙ sym (ap (λ c. cond c b (has_bit words q)) (ap (nat_eq n) (sym e) ∙ itself n))
            | inr bit ↦
                ap (λ w. nat_eq w 1) (others (q % 64) (omega arith) bit)
                ∙ ap (λ i. nat_eq (bit_at (slice_index words i) (q % 64)) 1) (sym place)
                ∙ sym (ap (λ c. cond c b (has_bit words q)) (apart n q (λ e. bit (ap (λ m. m % 64) (sym e)))))
          ]
      | inr place ↦
          ap (λ w. nat_eq (bit_at w (q % 64)) 1) (get_or-set_other words (n / 64) (q / 64) v 0 place)
          ∙ sym (ap (λ c. cond c b (has_bit words q)) (apart n q (λ e. place (ap (λ m. m / 64) (sym e)))))
    ]

pub turned_on : (words : List ℕ) (n : ℕ) → n / 64 < length words
    → Writes n true words (set words (n / 64) (bit_or (slice_index words (n / 64)) (1 * 2 ^ (n % 64) % 2 ^ 64)))
turned_on words n within =
    word_written words n true _ within
    (ap (λ b. nat_eq b 1) (bit_at_set_same w64 (slice_index words (n / 64)) (n % 64) (omega arith)))
    (λ k h other. bit_at_set_other w64 (slice_index words (n / 64)) (n % 64) (omega arith) k other)

pub turned_off : (words : List ℕ) (n : ℕ) → n / 64 < length words
    → Writes n false words (set words (n / 64) (bit_and (slice_index words (n / 64)) (bit_not w64 (1 * 2 ^ (n % 64) % 2 ^ 64))))
turned_off words n within =
    word_written words n false _ within
    (ap (λ b. nat_eq b 1) (bit_at_clear_same w64 (slice_index words (n / 64)) (n % 64) (omega arith)))
    (λ k h other. bit_at_clear_other w64 (slice_index words (n / 64)) (n % 64) (omega arith) k h other)

-- words that are alike have the same bits
pub alike : (words more : List ℕ) → ((k : ℕ) → slice_index more k ≡ slice_index words k) → (q : ℕ) → has_bit more q ≡ has_bit words q
alike words more same q = ap (λ w. nat_eq (bit_at w (q % 64)) 1) (same (q / 64))

pub writes_after : (n : ℕ) (b : Bool) (words more new : List ℕ) → ((k : ℕ) → slice_index more k ≡ slice_index words k) → Writes n b more new → Writes n b words new
writes_after n b words more new same writes q = writes q ∙ ap (cond (nat_eq n q) b) (alike words more same q)

pub with_default : (words : List ℕ) (i v : ℕ) → i < length words → v ≡ get_or words i v → v ≡ slice_index words i
with_default words i v below is =
    let one = slice_get-get_or words i v below in
    let other = slice_get-get_or words i 0 below in
    cc (is, one, other)
