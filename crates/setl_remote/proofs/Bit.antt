-- Bits of two words.
use Rattle.std.proofs.Common.{◌≡◌, ◌∙◌, ℕ, zero, suc, ◌-◌, ◌+◌, ◌%◌, ◌^◌, ◌<◌, true, false, not, ◌&&◌, ◌||◌, ◌⊎◌, inl, inr, ◌≢◌, refl, sym, ap, arith, nat_eq, w64, true≢false}
use Rattle.std.specs.Prelude.{min, max}
use Rattle.std.specs.Int.{bit_at, bit_not}
use Rattle.std.specs.Cmp.{nat_eq_equiv}
use Rattle.std.proofs.lemmas.Map.Views.{exact_unsigned_eq}
use Rattle.std.proofs.lemmas.Nat.Bits.{bit_at-lt, bit_at_and, bit_at_or, bit_at_xor, bit_at_not}
use Rattle.setl_remote.specs.Operation.{word_of, keeps}
use Rattle.setl_remote.specs.declared.combine.Operation.{Operation}
use Rattle.setl_remote.specs.declared.combine.Operation.TheVariants.{And, Or, Minus, Xor}

pub apart : (m n : ℕ) → m ≢ n → nat_eq m n ≡ false
apart m n other =
    elim (nat_eq m n) as (λ b. nat_eq m n ≡ b → b ≡ false) [
      | true ↦ λ same. absurd (other (exact_unsigned_eq m n same))
      | false ↦ λ _. refl
    ] refl

pub itself : (n : ℕ) → nat_eq n n ≡ true
itself n = nat_eq_equiv.refl n

pub same_or_not : (m n : ℕ) → (m ≡ n) ⊎ (m ≢ n)
same_or_not m n =
    elim (nat_eq m n) as (λ b. nat_eq m n ≡ b → (m ≡ n) ⊎ (m ≢ n)) [
      | true ↦ λ same. inl (exact_unsigned_eq m n same)
      | false ↦ λ other. inr (λ e. true≢false (sym (itself m) ∙ ap (nat_eq m) e ∙ other))
    ] refl

two_bits : (P : ℕ → ℕ → Type 0) → P 0 0 → P 0 1 → P 1 0 → P 1 1 → (x y : ℕ) → x < 2 → y < 2 → P x y
two_bits P a b c d zero zero h k = a
two_bits P a b c d zero (suc zero) h k = b
two_bits P a b c d zero (suc (suc y)) h k = absurd (omega arith)
two_bits P a b c d (suc zero) zero h k = c
two_bits P a b c d (suc zero) (suc zero) h k = d
two_bits P a b c d (suc zero) (suc (suc y)) h k = absurd (omega arith)
two_bits P a b c d (suc (suc x)) y h k = absurd (omega arith)

-- a bit of what an operation makes of two words
pub operation_bit : (operation : Operation) (x y k : ℕ) → y < 2 ^ 64 → k < 64 → nat_eq (bit_at (word_of operation x y) k) 1 ≡ keeps operation (nat_eq (bit_at x k) 1) (nat_eq (bit_at y k) 1)
operation_bit And x y k fits within =
    ap (λ b. nat_eq b 1) (bit_at_and x y k)
    ∙ two_bits (λ a b. nat_eq (min a b) 1 ≡ (nat_eq a 1 && nat_eq b 1)) refl refl refl refl (bit_at x k) (bit_at y k) (bit_at-lt x k) (bit_at-lt y k)
operation_bit Or x y k fits within =
    ap (λ b. nat_eq b 1) (bit_at_or x y k)
    ∙ two_bits (λ a b. nat_eq (max a b) 1 ≡ (nat_eq a 1 || nat_eq b 1)) refl refl refl refl (bit_at x k) (bit_at y k) (bit_at-lt x k) (bit_at-lt y k)
operation_bit Minus x y k fits within =
    ap (λ b. nat_eq b 1) (bit_at_and x (bit_not w64 y) k ∙ ap (min (bit_at x k)) (bit_at_not w64 y k fits within))
    ∙ two_bits (λ a b. nat_eq (min a (1 - b)) 1 ≡ (nat_eq a 1 && not (nat_eq b 1))) refl refl refl refl (bit_at x k) (bit_at y k) (bit_at-lt x k) (bit_at-lt y k)
operation_bit Xor x y k fits within =
    ap (λ b. nat_eq b 1) (bit_at_xor x y k)
    ∙ two_bits (λ a b. nat_eq ((a + b) % 2) 1 ≡ ((nat_eq a 1 && not (nat_eq b 1)) || (nat_eq b 1 && not (nat_eq a 1)))) refl refl refl refl (bit_at x k) (bit_at y k) (bit_at-lt x k) (bit_at-lt y k)

pub nothing_kept : (operation : Operation) → keeps operation false false ≡ false
nothing_kept And = refl
nothing_kept Or = refl
nothing_kept Minus = refl
nothing_kept Xor = refl
