-- The first line of bytes, and the parts of a line.
use Rattle.std.proofs.Common.{◌≡◌, ◌≢◌, ◌+◌, ◌<◌, ◌≤◌, ◌∙◌, ℕ, zero, suc, List, [], ◌∷◌, ◌++◌, Some, None, take, drop, length, get_or, refl, sym, ap, arith, add-one}
use Rattle.std.specs.List.{AllByRecursion}
use Rattle.std.proofs.lemmas.Bool.Decides.{nat_tests}
use Rattle.setl_tree.specs.Texts.{IsTextByte}
use Rattle.setl_debug_script.specs.Lines.{lines, with_byte}
use Rattle.setl_debug_script.specs.code.Parts.{split}

-- bytes before a place, none of which is byte 10
pub text_before : (z : List ℕ) (i : ℕ) → ((k : ℕ) → k < i → get_or z k 0 ≡ 10 → ⊥) → i ≤ length z → AllByRecursion IsTextByte (take i z)
text_before z zero f h = tt
text_before [] (suc i) f h = absurd (omega (arith, h))
text_before (b ∷ z) (suc i) f h = (f 0 (omega arith), text_before z i (λ k lt. f (suc k) (omega (arith, lt))) (omega (arith, h)))

pub text_whole : (z : List ℕ) → ((k : ℕ) → k < length z → get_or z k 0 ≡ 10 → ⊥) → AllByRecursion IsTextByte z
text_whole [] f = tt
text_whole (b ∷ z) f = (f 0 (omega arith), text_whole z (λ k lt. f (suc k) (omega (arith, lt))))

-- a byte that isn't 10 belongs to the first line
in_line : (b : ℕ) (bs : List ℕ) → b ≢ 10 → lines (b ∷ bs) ≡ with_byte b (lines bs)
in_line b bs h = grind (arith, nat_tests, h)

at_end : (b : ℕ) (bs : List ℕ) → b ≡ 10 → lines (b ∷ bs) ≡ [] ∷ lines bs
at_end b bs h = grind (arith, nat_tests, h)

-- the first line ends at the first byte 10
ends : (z : List ℕ) (i : ℕ) → AllByRecursion IsTextByte (take i z) → i < length z → get_or z i 0 ≡ 10 → lines z ≡ take i z ∷ lines (drop (suc i) z)
ends [] i a h e = absurd (omega (arith, h))
ends (b ∷ bs) zero a h e = at_end b bs e
ends (b ∷ bs) (suc i) a h e = in_line b bs a.0 ∙ ap (with_byte b) (ends bs i a.1 (omega (arith, h)) e)

pub line_ends : (z : List ℕ) (i : ℕ) → ((k : ℕ) → k < i → get_or z k 0 ≡ 10 → ⊥) → i < length z → get_or z i 0 ≡ 10 → lines z ≡ take i z ∷ lines (drop (i + 1) z)
line_ends z i f h e = rw (add-one) (ends z i (text_before z i f (omega (arith, h))) h e)

-- a line may end by the end of the bytes
open_line : (b : ℕ) (z : List ℕ) → AllByRecursion IsTextByte (b ∷ z) → lines (b ∷ z) ≡ (b ∷ z) ∷ []
open_line b [] a = in_line b [] a.0
open_line b (c ∷ z) a = in_line b (c ∷ z) a.0 ∙ ap (with_byte b) (open_line c z a.1)

pub line_open : (z : List ℕ) → 0 < length z → ((k : ℕ) → k < length z → get_or z k 0 ≡ 10 → ⊥) → lines z ≡ z ∷ []
line_open [] h f = absurd (omega (arith, h))
line_open (b ∷ z) h f = open_line b z (text_whole (b ∷ z) f)

pub no_line : (z : List ℕ) → length z ≡ 0 → lines z ≡ []
no_line [] e = refl
no_line (b ∷ z) e = absurd (omega (arith, e))

-- ---- the first blank

in_word : (b : ℕ) (bs : List ℕ) → b ≢ 32 → split (b ∷ bs) ≡ (b ∷ (split bs).0, (split bs).1)
in_word b bs h = grind (arith, nat_tests, h)

at_blank : (b : ℕ) (bs : List ℕ) → b ≡ 32 → split (b ∷ bs) ≡ ([], Some bs)
at_blank b bs h = grind (arith, nat_tests, h)

splits : (z : List ℕ) (i : ℕ) → ((k : ℕ) → k < i → get_or z k 0 ≡ 32 → ⊥) → i < length z → get_or z i 0 ≡ 32 → split z ≡ (take i z, Some (drop (suc i) z))
splits [] i f h e = absurd (omega (arith, h))
splits (b ∷ bs) zero f h e = at_blank b bs e
splits (b ∷ bs) (suc i) f h e = in_word b bs (f 0 (omega arith)) ∙ ap (λ p. (b ∷ p.0, p.1)) (splits bs i (λ k lt. f (suc k) (omega (arith, lt))) (omega (arith, h)) e)

pub blank_there : (z : List ℕ) (i : ℕ) → ((k : ℕ) → k < i → get_or z k 0 ≡ 32 → ⊥) → i < length z → get_or z i 0 ≡ 32 → split z ≡ (take i z, Some (drop (i + 1) z))
blank_there z i f h e = rw (add-one) (splits z i f h e)

pub no_blank : (z : List ℕ) → ((k : ℕ) → k < length z → get_or z k 0 ≡ 32 → ⊥) → split z ≡ (z, None)
no_blank [] f = refl
no_blank (b ∷ bs) f = in_word b bs (f 0 (omega arith)) ∙ ap (λ p. (b ∷ p.0, p.1)) (no_blank bs (λ k lt. f (suc k) (omega (arith, lt))))
