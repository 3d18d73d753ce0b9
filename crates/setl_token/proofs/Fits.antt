-- Each piece has a byte at least, and no more than there are.
use Rattle.std.proofs.Common.{◌≡◌, ℕ, ◌+◌, ◌<◌, ◌≤◌, ◌==◌, Bool, true, false, cond, List, [], ◌∷◌, length, take, get_or, Option, Some, None, Result, Ok, Err, refl, arith}
use Rattle.std.proofs.lemmas.Bool.Decides.{nat_tests}
use Rattle.std.proofs.lemmas.List.Sums.{prefix_len-le-length}
use Rattle.std.specs.Char.{is_ascii_digit, is_ascii_alphabetic}
use Rattle.std.specs.List.{prefix_len}
use Rattle.setl_token.specs.declared.Cause.{Cause}
use Rattle.setl_token.specs.declared.pieces.Piece.{Piece}
use Rattle.setl_token.specs.Bytes.{is_blank, is_in_line, is_in_word, value_of}
use Rattle.setl_token.specs.code.Pieces.{piece_at, string_end, string_piece, sign_len, sign_piece, number_piece, within_limit}

-- what holds of both branches holds of a choice
pub by_test : {A : Type 0} (P : A → Type 0) (b : Bool) (x y : A) → (b ≡ true → P x) → (b ≡ false → P y) → P (cond b x y)
by_test P true x y holds fails = holds refl
by_test P false x y holds fails = fails refl

-- a piece has a byte at least, and no more than there are
abbrev pub Fits : List ℕ → Result Piece Cause → Type 0
Fits z (Ok p) = (0 < p.len) × (p.len ≤ length z)
Fits z (Err c) = Unit {0}

pub prefix_some : (p : ℕ → Bool) (b : ℕ) (t : List ℕ) → p b ≡ true → 0 < prefix_len p (b ∷ t)
prefix_some p b t e = rw e (omega arith)

abbrev AfterAt : ℕ → List ℕ → Option ℕ → Type 0
AfterAt at z (Some n) = (at < n) × (n ≤ at + length z)
AfterAt at z None = Unit {0}

later : (at k : ℕ) (y z : List ℕ) (r : Option ℕ) → length y + k ≡ length z → AfterAt (at + k) y r → AfterAt at z r
later at k y z (Some n) e h = (omega arith, omega arith)
later at k y z None e h = tt

string_fits : (at : ℕ) (z : List ℕ) → AfterAt at z (string_end at z)
string_fits at [] = tt
string_fits at (b ∷ []) = by_test (AfterAt at (b ∷ [])) (b == 39) (Some (at + 1)) None (λ _. (omega arith, omega arith)) (λ _. tt)
string_fits at (b ∷ c ∷ z) =
    by_test (AfterAt at (b ∷ c ∷ z)) (b == 39) _ _
    (λ _. by_test (AfterAt at (b ∷ c ∷ z)) (c == 39) _ _ (λ _. later at 2 z (b ∷ c ∷ z) (string_end (at + 2) z) (omega arith) (string_fits (at + 2) z)) (λ _. (omega arith, omega arith)))
    (λ _. by_test (AfterAt at (b ∷ c ∷ z)) (b == 10) _ _ (λ _. tt) (λ _. later at 1 (c ∷ z) (b ∷ c ∷ z) (string_end (at + 1) (c ∷ z)) (omega arith) (string_fits (at + 1) (c ∷ z))))

string_piece_fits : (b : ℕ) (t : List ℕ) (r : Option ℕ) → AfterAt 1 t r → Fits (b ∷ t) (string_piece r)
string_piece_fits b t (Some n) h = (omega arith, omega arith)
string_piece_fits b t None h = tt

number_fits : (z : List ℕ) (len : ℕ) (r : Option ℕ) → 0 < len → len ≤ length z → Fits z (number_piece len r)
number_fits z len (Some n) some within = (some, within)
number_fits z len None some within = tt

sign_len_fits : (b : ℕ) (t : List ℕ) → sign_len b (get_or t 0 0) ≤ length (b ∷ t)
sign_len_fits b [] = grind (arith, nat_tests)
sign_len_fits b (c ∷ t) = grind (arith, nat_tests)

sign_fits : (z : List ℕ) (n : ℕ) → n ≤ length z → Fits z (sign_piece n)
sign_fits z n h = by_test (Fits z) (n == 0) _ _ (λ _. tt) (λ e. (grind (arith, nat_tests), h))

pub piece_fits : (b : ℕ) (t : List ℕ) → Fits (b ∷ t) (piece_at (b ∷ t))
unfolding piece_at
piece_fits b t =
    by_test (Fits (b ∷ t)) (is_blank b) _ _ (λ _. (omega arith, omega arith))
    (λ _. by_test (Fits (b ∷ t)) (b == 36) _ _ (λ e. (prefix_some is_in_line b t (grind (arith, nat_tests)), prefix_len-le-length is_in_line (b ∷ t)))
    (λ _. by_test (Fits (b ∷ t)) (is_ascii_alphabetic b) _ _ (λ e. (prefix_some is_in_word b t (grind (arith, nat_tests)), prefix_len-le-length is_in_word (b ∷ t)))
    (λ _. by_test (Fits (b ∷ t)) (is_ascii_digit b) _ _ (λ e. number_fits (b ∷ t) _ (within_limit (value_of (take (prefix_len is_ascii_digit (b ∷ t)) (b ∷ t)))) (prefix_some is_ascii_digit b t e) (prefix_len-le-length is_ascii_digit (b ∷ t)))
    (λ _. by_test (Fits (b ∷ t)) (b == 39) _ _ (λ _. string_piece_fits b t (string_end 1 t) (string_fits 1 t))
    (λ _. sign_fits (b ∷ t) (sign_len b (get_or t 0 0)) (sign_len_fits b t))))))
