-- The piece that begins at a place is the longest of the table, and where none begins no form does.
use Rattle.std.proofs.Common.{◌≡◌, ◌≢◌, ℕ, ◌<◌, ◌==◌, true, false, leb, List, [], ◌∷◌, length, take, get_or, Option, Some, None, Result, Ok, Err, refl, sym, ap, subst, ◌∙◌, arith, ⊎_elim}
use Rattle.std.proofs.lemmas.Bool.{false≢true, eqb-true, eqb-false, leb-false, cases_lt}
use Rattle.std.specs.Char.{is_ascii_digit, is_ascii_alphabetic}
use Rattle.std.specs.List.{prefix_len}
use Rattle.setl_token.specs.declared.Cause.{Cause}
use Rattle.setl_token.specs.declared.Cause.TheVariants as cause
use Rattle.setl_token.specs.declared.pieces.Piece.{Piece}
use Rattle.setl_token.specs.Bytes.{is_blank, value_of, limit}
use Rattle.setl_token.specs.code.Pieces.{piece_at, string_end, string_piece, sign_len, sign_piece, number_piece, within_limit}
use Rattle.setl_token.specs.Form.{BeginsWith, IsLongest, BeginsNone, IsCause}
use Rattle.setl_token.proofs.Fits.{by_test, piece_fits, Fits}
use Rattle.setl_token.proofs.Formed.{piece_formed, Formed}
use Rattle.setl_token.proofs.Covered.{form_covered, CoveredBy}

abbrev pub fine : Piece → Result Piece Cause
fine p = Ok p

abbrev pub faulty : Cause → Result Piece Cause
faulty c = Err c

begins : (z : List ℕ) (p : Piece) → 0 < length z → piece_at z ≡ Ok p → BeginsWith z p.kind p.len
begins [] p some e = absurd (omega arith)
begins (b ∷ t) p some e = ((subst (Fits (b ∷ t)) e (piece_fits b t)).1, subst (Formed (b ∷ t)) e (piece_formed b t))

pub longest_of : (z : List ℕ) (p : Piece) → 0 < length z → piece_at z ≡ Ok p → IsLongest z p
longest_of z p some e = record {
  begins = begins z p some e;
  longest = λ k n more other.
      let c : CoveredBy k n (Ok p) = subst (CoveredBy k n) e (form_covered z k n other.0 other.1) in
      absurd (omega (arith, more, c.0));
}

same_piece : (p q : Piece) → p.kind ≡ q.kind → p.len ≡ q.len → p ≡ q
same_piece p q e f = λ i. record { kind = e i; len = f i }

longest_is : (z : List ℕ) (p : Piece) → 0 < length z → IsLongest z p → (r : Result Piece Cause) → piece_at z ≡ r → CoveredBy p.kind p.len r → r ≡ Ok p
longest_is z p some h (Ok q) e c =
    ⊎_elim (λ shorter. absurd (h.longest q.kind q.len shorter (begins z q some e)))
    (λ longer. let len : p.len ≡ q.len = omega (arith, c.0, longer) in ap fine (sym (same_piece p q (c.1 len) len)))
    (cases_lt p.len q.len)
longest_is z p some h (Err d) e c = absurd c

pub of_longest : (z : List ℕ) (p : Piece) → 0 < length z → IsLongest z p → piece_at z ≡ Ok p
of_longest z p some h = longest_is z p some h (piece_at z) refl (form_covered z p.kind p.len h.begins.0 h.begins.1)

-- what the first bytes are where no piece begins
abbrev Why : Cause → List ℕ → Type 0
Why cause.Byte z = (is_ascii_digit (get_or z 0 0) ≡ false) × (get_or z 0 0 ≢ 39)
Why cause.OpenString z = get_or z 0 0 ≡ 39
Why cause.WideNumber z = (is_ascii_digit (get_or z 0 0) ≡ true) × (limit < value_of (take (prefix_len is_ascii_digit z) z))

abbrev WhyNot : List ℕ → Result Piece Cause → Type 0
WhyNot z (Ok p) = Unit {0}
WhyNot z (Err c) = Why c z

why_number : (z : List ℕ) → is_ascii_digit (get_or z 0 0) ≡ true → WhyNot z (number_piece (prefix_len is_ascii_digit z) (within_limit (value_of (take (prefix_len is_ascii_digit z) z))))
why_number z e =
    let v = value_of (take (prefix_len is_ascii_digit z) z) in
    by_test (λ (r : Option ℕ). WhyNot z (number_piece (prefix_len is_ascii_digit z) r)) (leb v limit) (Some v) None (λ _. tt) (λ f. (e, leb-false v limit f))

why_string : (z : List ℕ) (r : Option ℕ) → get_or z 0 0 ≡ 39 → WhyNot z (string_piece r)
why_string z (Some n) e = tt
why_string z None e = e

why_sign : (z : List ℕ) (n : ℕ) → is_ascii_digit (get_or z 0 0) ≡ false → get_or z 0 0 ≢ 39 → WhyNot z (sign_piece n)
why_sign z n digit quote = by_test (WhyNot z) (n == 0) _ _ (λ _. (digit, quote)) (λ _. tt)

why_not : (b : ℕ) (t : List ℕ) → WhyNot (b ∷ t) (piece_at (b ∷ t))
unfolding piece_at
why_not b t =
    let z : List ℕ = b ∷ t in
    by_test (WhyNot z) (is_blank b) _ _ (λ _. tt)
    (λ _. by_test (WhyNot z) (b == 36) _ _ (λ _. tt)
    (λ _. by_test (WhyNot z) (is_ascii_alphabetic b) _ _ (λ _. tt)
    (λ _. by_test (WhyNot z) (is_ascii_digit b) _ _ (λ e. why_number z e)
    (λ digit. by_test (WhyNot z) (b == 39) _ _ (λ e. why_string z (string_end 1 t) (eqb-true b 39 e))
    (λ quote. why_sign z (sign_len b (get_or t 0 0)) digit (eqb-false b 39 quote))))))

why : (z : List ℕ) (c : Cause) → 0 < length z → piece_at z ≡ Err c → Why c z
why [] c some e = absurd (omega arith)
why (b ∷ t) c some e = subst (WhyNot (b ∷ t)) e (why_not b t)

bare_of : (z : List ℕ) (c : Cause) → piece_at z ≡ Err c → BeginsNone z
bare_of z c e = λ k n other. subst (CoveredBy k n) e (form_covered z k n other.0 other.1)

pub stands_of : (z : List ℕ) (c : Cause) → 0 < length z → piece_at z ≡ Err c → IsCause c z
stands_of z cause.Byte some e = let w = why z cause.Byte some e in (w.0, w.1, bare_of z cause.Byte e)
stands_of z cause.OpenString some e = (why z cause.OpenString some e, bare_of z cause.OpenString e)
stands_of z cause.WideNumber some e = let w = why z cause.WideNumber some e in (w.0, w.1, bare_of z cause.WideNumber e)

pub bare : (c : Cause) (z : List ℕ) → IsCause c z → BeginsNone z
bare cause.Byte z h = h.2
bare cause.OpenString z h = h.1
bare cause.WideNumber z h = h.2

same_cause : (c d : Cause) (z : List ℕ) → IsCause c z → Why d z → d ≡ c
same_cause cause.Byte cause.Byte z h w = refl
same_cause cause.Byte cause.OpenString z h w = absurd (h.1 w)
same_cause cause.Byte cause.WideNumber z h w = absurd (false≢true (sym h.0 ∙ w.0))
same_cause cause.OpenString cause.Byte z h w = absurd (w.1 h.0)
same_cause cause.OpenString cause.OpenString z h w = refl
same_cause cause.OpenString cause.WideNumber z h w = absurd (false≢true (ap is_ascii_digit (sym h.0) ∙ w.0))
same_cause cause.WideNumber cause.Byte z h w = absurd (false≢true (sym w.0 ∙ h.0))
same_cause cause.WideNumber cause.OpenString z h w = absurd (false≢true (ap is_ascii_digit (sym w) ∙ h.0))
same_cause cause.WideNumber cause.WideNumber z h w = refl

stands_is : (z : List ℕ) (c : Cause) → 0 < length z → IsCause c z → (r : Result Piece Cause) → piece_at z ≡ r → r ≡ Err c
stands_is z c some h (Ok p) e = absurd (bare c z h p.kind p.len (begins z p some e))
stands_is z c some h (Err d) e = ap faulty (same_cause c d z h (why z d some e))

pub of_stands : (z : List ℕ) (c : Cause) → 0 < length z → IsCause c z → piece_at z ≡ Err c
of_stands z c some h = stands_is z c some h (piece_at z) refl

piece_is : (p q : Piece) → fine p ≡ fine q → p ≡ q
piece_is p q e = cc

cause_is : (c d : Cause) → faulty c ≡ faulty d → c ≡ d
cause_is c d e = cc

-- the longest piece and the cause are determined
pub one_piece : (z : List ℕ) (p q : Piece) → 0 < length z → IsLongest z p → IsLongest z q → p ≡ q
one_piece z p q some a b = piece_is p q (sym (of_longest z p some a) ∙ of_longest z q some b)

pub one_cause : (z : List ℕ) (c d : Cause) → 0 < length z → IsCause c z → IsCause d z → c ≡ d
one_cause z c d some a b = cause_is c d (sym (of_stands z c some a) ∙ of_stands z d some b)

-- a piece has a byte at least
pub piece_some : (z : List ℕ) (p : Piece) → 0 < length z → piece_at z ≡ Ok p → 0 < p.len
piece_some [] p some e = absurd (omega arith)
piece_some (b ∷ t) p some e = (subst (Fits (b ∷ t)) e (piece_fits b t)).0
