-- Copies of a list, one after another.
use Rattle.std.specs.Prelude.{◌≡◌, ℕ, zero, suc, ◌+◌, List, [], ◌∷◌, ◌++◌, replicate, refl, length, ◌==◌, true}
use Rattle.std.specs.List.{flat_map, All, AllByRecursion}
use Rattle.std.proofs.Common.{ap, sym, ◌∙◌, arith}
use Rattle.std.proofs.lemmas.List.{replicate-append-replicate, append-nil}
use Rattle.std.proofs.lemmas.List.Concat.{flat_map-append}
use Rattle.std.proofs.lemmas.List.Elements.{All-nil, All-append, All-weaker, All-from_recursion}
use Rattle.std.proofs.lemmas.Bool.{true≢false}
use Rattle.std.proofs.lemmas.Bool.Decides.{nat_tests}
use Rattle.setl_value.specs.WellFormed.{IsTextByte}
use Rattle.setl_value.specs.Copies.{copies}

pub copies-nil : (n : ℕ) → copies {A = ℕ} n [] ≡ []
copies-nil zero = refl
copies-nil (suc n) = copies-nil n

pub copies_more : (n : ℕ) (t : List ℕ) → copies n t ++ t ≡ copies (n + 1) t
copies_more n t =
    ap (λ l. copies n t ++ l) (sym (append-nil t)) ∙ sym (flat_map-append (λ copy. copy) (replicate n t) (t ∷ [])) ∙ ap (flat_map (λ copy. copy)) (replicate-append-replicate n 1 t)

-- no copy of an empty list holds anything
pub copies_of_none : (n : ℕ) (t l : List ℕ) → true ≡ (length t == 0) → l ≡ [] → l ≡ copies n t
copies_of_none n [] l e p = p ∙ sym (copies-nil n)
copies_of_none n (b ∷ t) l e p = absurd (true≢false (e ∙ grind (arith, nat_tests)))

pub All-copies : (P : ℕ → Type 0) (n : ℕ) (t : List ℕ) → All P t → All P (copies n t)
All-copies P zero t h = All-nil P
All-copies P (suc n) t h = All-append P t (copies n t) h (All-copies P n t h)

-- no byte of a text is a line end, so none of a joined text or of copies is one
plain : (t : List ℕ) → AllByRecursion IsTextByte t → All (λ b. (b ≡ 10) → ⊥) t
plain t h = All-weaker IsTextByte (λ b. (b ≡ 10) → ⊥) (λ b p. p.1) t (All-from_recursion IsTextByte t h)

pub plain_append : (s t : List ℕ) → AllByRecursion IsTextByte s → AllByRecursion IsTextByte t → All (λ b. (b ≡ 10) → ⊥) (s ++ t)
plain_append s t h k = All-append (λ b. (b ≡ 10) → ⊥) s t (plain s h) (plain t k)

pub plain_copies : (n : ℕ) (t : List ℕ) → AllByRecursion IsTextByte t → All (λ b. (b ≡ 10) → ⊥) (copies n t)
plain_copies n t h = All-copies (λ b. (b ≡ 10) → ⊥) n t (plain t h)
