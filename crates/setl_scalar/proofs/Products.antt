-- The product of integers distributes over the sum, and is associative.
use Rattle.std.specs.Prelude.{◌≡◌, ℤ, pos, negsuc, zero, suc, ◌+ℤ◌, ◌-ℤ◌, ◌*ℤ◌}
use Rattle.std.proofs.Common.{ap, sym, ◌∙◌, arith}
use Rattle.std.proofs.lemmas.Int.{ints}
use Rattle.std.proofs.Math.IntN.{+ℤ_idl, zero-*ℤ, suc_ℤ-+ℤ, pred_ℤ-+ℤ, suc_ℤ-*ℤ, pred_ℤ-*ℤ, -ℤ-+ℤ_cancel}

add-mul : (x y c : ℤ) → (x +ℤ y) *ℤ c ≡ x *ℤ c +ℤ y *ℤ c
add-mul (pos zero) y c = ap (λ t. t *ℤ c) (+ℤ_idl y) ∙ omega (arith, ints, zero-*ℤ c)
add-mul (pos (suc n)) y c =
    ap (λ t. t *ℤ c) (suc_ℤ-+ℤ (pos n) y) ∙ suc_ℤ-*ℤ (pos n +ℤ y) c ∙ omega (arith, ints, add-mul (pos n) y c, suc_ℤ-*ℤ (pos n) c)
add-mul (negsuc zero) y c =
    ap (λ t. t *ℤ c) (pred_ℤ-+ℤ (pos zero) y) ∙ pred_ℤ-*ℤ (pos zero +ℤ y) c ∙ omega (arith, ints, ap (λ t. t *ℤ c) (+ℤ_idl y), pred_ℤ-*ℤ (pos zero) c, zero-*ℤ c)
add-mul (negsuc (suc n)) y c =
    ap (λ t. t *ℤ c) (pred_ℤ-+ℤ (negsuc n) y) ∙ pred_ℤ-*ℤ (negsuc n +ℤ y) c ∙ omega (arith, ints, add-mul (negsuc n) y c, pred_ℤ-*ℤ (negsuc n) c)

sub-mul : (x y c : ℤ) → (x -ℤ y) *ℤ c ≡ x *ℤ c -ℤ y *ℤ c
sub-mul x y c = omega (arith, ints, sym (add-mul (x -ℤ y) y c) ∙ ap (λ t. t *ℤ c) (-ℤ-+ℤ_cancel x y))

pub mul_assoc : (a b c : ℤ) → (a *ℤ b) *ℤ c ≡ a *ℤ (b *ℤ c)
mul_assoc (pos zero) b c = ap (λ t. t *ℤ c) (zero-*ℤ b) ∙ zero-*ℤ c ∙ sym (zero-*ℤ (b *ℤ c))
mul_assoc (pos (suc n)) b c =
    ap (λ t. t *ℤ c) (suc_ℤ-*ℤ (pos n) b) ∙ add-mul (pos n *ℤ b) b c ∙ omega (arith, ints, mul_assoc (pos n) b c, suc_ℤ-*ℤ (pos n) (b *ℤ c))
mul_assoc (negsuc zero) b c =
    ap (λ t. t *ℤ c) (pred_ℤ-*ℤ (pos zero) b) ∙ sub-mul (pos zero *ℤ b) b c ∙ omega (arith, ints, ap (λ t. t *ℤ c) (zero-*ℤ b), zero-*ℤ c, pred_ℤ-*ℤ (pos zero) (b *ℤ c), zero-*ℤ (b *ℤ c))
mul_assoc (negsuc (suc n)) b c =
    ap (λ t. t *ℤ c) (pred_ℤ-*ℤ (negsuc n) b) ∙ sub-mul (negsuc n *ℤ b) b c ∙ omega (arith, ints, mul_assoc (negsuc n) b c, pred_ℤ-*ℤ (negsuc n) (b *ℤ c))
