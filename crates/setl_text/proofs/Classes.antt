-- What a byte is where an integer, word, string, set or tuple may begin.
use Rattle.std.proofs.Common.{◌≡◌, ℕ, ◌-◌, ◌<◌, true, false, leb, List, [], ◌∷◌, refl, arith}
use Rattle.std.proofs.lemmas.Bool.{and_parts, leb-true, ne_eqb, lt-leb}
use Rattle.std.proofs.lemmas.Bool.Decides.{nat_tests}
use Rattle.setl_text.specs.Bytes.{is_blank, is_gap, is_digit, is_letter}
use Rattle.setl_text.specs.Reading.{InNumber, Open, Goes, gap_at, begin, first_letter}

pub no_blank : (b : ℕ) → 44 < b → is_blank b ≡ false
no_blank b h =
    rw (ne_eqb b 9 (λ e. absurd (omega arith)), ne_eqb b 10 (λ e. absurd (omega arith)), ne_eqb b 13 (λ e. absurd (omega arith)), ne_eqb b 32 (λ e. absurd (omega arith))) refl

pub no_gap : (b : ℕ) → 44 < b → is_gap b ≡ false
no_gap b h = rw (no_blank b h, ne_eqb b 44 (λ e. absurd (omega arith))) refl

pub no_gap_at : (os : List Open) (b : ℕ) → 44 < b → gap_at os b ≡ false
no_gap_at [] b h = no_blank b h
no_gap_at (o ∷ os) b h = no_gap b h

pub digit_above : (b : ℕ) → is_digit b ≡ true → 47 < b
digit_above b e = let p = leb-true 48 b (and_parts (leb 48 b) (leb b 57) e).0 in omega arith

pub no_digit : (b : ℕ) → 57 < b → is_digit b ≡ false
no_digit b h = rw (lt-leb b 57 h) (grind (arith, nat_tests))

pub letter_above : (b : ℕ) → is_letter b ≡ true → 64 < b
letter_above b e = grind (arith, nat_tests)

pub begin_digit : (os : List Open) (b : ℕ) → is_digit b ≡ true → begin os b ≡ Goes (InNumber false (b - 48)) os
begin_digit os b e = let h = digit_above b e in rw (no_gap_at os b (omega arith), e) refl

pub begin_letter : (os : List Open) (b : ℕ) → is_letter b ≡ true → begin os b ≡ first_letter b os
begin_letter os b e = let h = letter_above b e in rw (no_gap_at os b (omega arith), no_digit b (omega arith), e) refl
