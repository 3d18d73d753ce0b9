-- The piece that begins at a place has the form of its kind.
use Rattle.std.proofs.Common.{◌≡◌, ◌≢◌, ℕ, suc, ◌+◌, ◌<◌, ◌≤◌, ◌==◌, Bool, true, false, ◌||◌, leb, List, [], ◌∷◌, ◌++◌, length, take, drop, get_or, Option, Some, None, Result, Ok, Err, Contains, refl, sym, ap, subst, ◌∙◌, arith}
use Rattle.std.proofs.lemmas.Bool.{false≢true, leb-true, eqb-true, eqb-false}
use Rattle.std.proofs.lemmas.Bool.Decides.{nat_tests}
use Rattle.std.proofs.lemmas.List.{get_or-take, length-take-le}
use Rattle.std.proofs.lemmas.List.Folds.{list_any_at}
use Rattle.std.proofs.lemmas.List.Sums.{prefix_len-le-length}
use Rattle.std.proofs.lemmas.Slice.Eq.{bytes_eq-Decides}
use Rattle.std.specs.Char.{is_ascii_digit, is_ascii_alphabetic}
use Rattle.std.specs.List.{prefix_len, list_all, list_any}
use Rattle.std.specs.Str.{bytes_eq}
use Rattle.setl_token.specs.declared.TokenKind.{TokenKind}
use Rattle.setl_token.specs.declared.TokenKind.TheVariants as kind
use Rattle.setl_token.specs.declared.Cause.{Cause}
use Rattle.setl_token.specs.declared.pieces.PieceKind.TheVariants as is
use Rattle.setl_token.specs.declared.pieces.Piece.{Piece}
use Rattle.setl_token.specs.Bytes.{is_blank, is_in_line, is_in_word, lower, value_of, limit}
use Rattle.setl_token.specs.Spellings.{spellings, listed, signs, is_reserved}
use Rattle.setl_token.specs.code.Pieces.{piece_at, word_kind, string_end, string_piece, sign_len, sign_piece, number_piece, within_limit, is_sign_pair, is_single_sign}
use Rattle.setl_token.specs.Form.{IsForm, IsWordText, IsStringText, doubled}
use Rattle.setl_token.proofs.Runs.{run_passes, run_ends}
use Rattle.setl_token.proofs.Fits.{by_test, prefix_some}

-- the piece's bytes are of the form of its kind
abbrev pub Formed : List ℕ → Result Piece Cause → Type 0
Formed z (Ok p) = IsForm p.kind (take p.len z) (drop p.len z)
Formed z (Err c) = Unit {0}

found_first : (t w : List ℕ) (ws : List (List ℕ)) (b : Bool) → bytes_eq t w ≡ b → (list_any (bytes_eq t) ws ≡ true → Contains ws t) → (b || list_any (bytes_eq t) ws) ≡ true → Contains (w ∷ ws) t
found_first t w ws true same later e = (0, omega arith, sym ((bytes_eq-Decides t w).0 same))
found_first t w ws false same later e = let k = later e in (suc k.0, omega (arith, k.1), k.2)

-- a text that is found in a list is an element of it, and the other way round
pub contains_found : (t : List ℕ) (ws : List (List ℕ)) → list_any (bytes_eq t) ws ≡ true → Contains ws t
contains_found t [] e = absurd (false≢true e)
contains_found t (w ∷ ws) e = found_first t w ws (bytes_eq t w) refl (contains_found t ws) e

pub found_contains : (t : List ℕ) (ws : List (List ℕ)) → Contains ws t → list_any (bytes_eq t) ws ≡ true
found_contains t ws c = list_any_at (bytes_eq t) ws c.0 t c.1 ((bytes_eq-Decides t (get_or ws c.0 t)).1 (sym c.2))

word_formed : (text behind : List ℕ) → IsWordText text → IsForm (is.Token (word_kind text)) text behind
word_formed text behind w =
    by_test (λ (k : TokenKind). IsForm (is.Token k) text behind) (is_reserved (lower text)) kind.Word kind.Name
    (λ e. (w, contains_found (lower text) listed e)) (λ e. (w, λ c. false≢true (sym e ∙ found_contains (lower text) listed c)))

number_formed : (z : List ℕ) (len : ℕ) → 0 < length (take len z) → list_all is_ascii_digit (take len z) ≡ true → is_ascii_digit (get_or (drop len z) 0 0) ≡ false → Formed z (number_piece len (within_limit (value_of (take len z))))
number_formed z len some all ends =
    let v = value_of (take len z) in
    by_test (λ (r : Option ℕ). Formed z (number_piece len r)) (leb v limit) (Some v) None (λ e. ((some, all, ends, leb-true v limit e), refl)) (λ _. tt)

pair_found : (b c : ℕ) → is_sign_pair b c ≡ true → list_any (bytes_eq (b ∷ c ∷ [])) signs ≡ true
unfolding spellings listed signs
pair_found b c e = grind (arith, nat_tests)

single_found : (b : ℕ) → is_single_sign b ≡ true → list_any (bytes_eq (b ∷ [])) signs ≡ true
unfolding spellings listed signs
single_found b e = grind (arith, nat_tests)

no_pair : (b : ℕ) → is_sign_pair b 0 ≡ true → ⊥
no_pair b e = grind (arith, nat_tests)

sign_formed : (b : ℕ) (t : List ℕ) → Formed (b ∷ t) (sign_piece (sign_len b (get_or t 0 0)))
sign_formed b [] =
    by_test (λ (n : ℕ). Formed (b ∷ []) (sign_piece n)) (is_sign_pair b 0) 2 _ (λ e. absurd (no_pair b e))
    (λ _. by_test (λ (n : ℕ). Formed (b ∷ []) (sign_piece n)) (is_single_sign b) 1 0 (λ e. contains_found (b ∷ []) signs (single_found b e)) (λ _. tt))
sign_formed b (c ∷ t) =
    by_test (λ (n : ℕ). Formed (b ∷ c ∷ t) (sign_piece n)) (is_sign_pair b c) 2 _ (λ e. contains_found (b ∷ c ∷ []) signs (pair_found b c e))
    (λ _. by_test (λ (n : ℕ). Formed (b ∷ c ∷ t) (sign_piece n)) (is_single_sign b) 1 0 (λ e. contains_found (b ∷ []) signs (single_found b e)) (λ _. tt))

-- Where a string ends of which `at` bytes were passed: its body, which the closing apostrophe follows.
pub record Ends (at : ℕ) (z : List ℕ) (n : ℕ) : Type 0 where
  pub more : ℕ
  pub end_is : n ≡ at + more
  pub body : List ℕ
  pub text_is : take more z ≡ doubled body ++ 39 ∷ []
  pub in_line : list_all is_in_line body ≡ true
  pub closed : get_or (drop more z) 0 0 ≢ 39

abbrev EndsAt : ℕ → List ℕ → Option ℕ → Type 0
EndsAt at z (Some n) = Ends at z n
EndsAt at z None = Unit {0}

closing_here : (at b : ℕ) (z : List ℕ) → b ≡ 39 → get_or z 0 0 ≢ 39 → Ends at (b ∷ z) (at + 1)
closing_here at b z e c = record { more = 1; end_is = refl; body = []; text_is = rw e refl; in_line = refl; closed = c }

two_more : (at b c : ℕ) (z : List ℕ) (r : Option ℕ) → b ≡ 39 → c ≡ 39 → EndsAt (at + 2) z r → EndsAt at (b ∷ c ∷ z) r
two_more at b c z (Some n) e f h = record {
  more = suc (suc h.more);
  end_is = omega (arith, h.end_is);
  body = 39 ∷ h.body;
  text_is = λ i. e i ∷ f i ∷ h.text_is i;
  in_line = h.in_line;
  closed = h.closed;
}
two_more at b c z None e f h = tt

one_more : (at b : ℕ) (z : List ℕ) (r : Option ℕ) → (b == 39) ≡ false → (b == 10) ≡ false → EndsAt (at + 1) z r → EndsAt at (b ∷ z) r
one_more at b z (Some n) e f h = record {
  more = suc h.more;
  end_is = omega (arith, h.end_is);
  body = b ∷ h.body;
  text_is = rw e (λ i. b ∷ h.text_is i);
  in_line = rw f h.in_line;
  closed = h.closed;
}
one_more at b z None e f h = tt

string_ends : (at : ℕ) (z : List ℕ) → EndsAt at z (string_end at z)
string_ends at [] = tt
string_ends at (b ∷ []) = by_test (EndsAt at (b ∷ [])) (b == 39) (Some (at + 1)) None (λ e. closing_here at b [] (eqb-true b 39 e) (λ h. omega arith)) (λ _. tt)
string_ends at (b ∷ c ∷ z) =
    by_test (EndsAt at (b ∷ c ∷ z)) (b == 39) _ _
    (λ e. by_test (EndsAt at (b ∷ c ∷ z)) (c == 39) _ _ (λ f. two_more at b c z (string_end (at + 2) z) (eqb-true b 39 e) (eqb-true c 39 f) (string_ends (at + 2) z)) (λ f. closing_here at b (c ∷ z) (eqb-true b 39 e) (eqb-false c 39 f)))
    (λ e. by_test (EndsAt at (b ∷ c ∷ z)) (b == 10) _ _ (λ _. tt) (λ f. one_more at b (c ∷ z) (string_end (at + 1) (c ∷ z)) e f (string_ends (at + 1) (c ∷ z))))

string_formed : (t : List ℕ) (r : Option ℕ) → EndsAt 1 t r → Formed (39 ∷ t) (string_piece r)
string_formed t (Some n) h =
    let e : n ≡ suc h.more = omega (arith, h.end_is) in
    subst (λ (m : ℕ). IsStringText (take m (39 ∷ t)) (drop m (39 ∷ t))) (sym e) (record { body = h.body; text_is = λ i. 39 ∷ h.text_is i; in_line = h.in_line; closed = h.closed })
string_formed t None h = tt

-- the first byte of a front
pub first_of : (z : List ℕ) (n : ℕ) → 0 < n → get_or (take n z) 0 0 ≡ get_or z 0 0
first_of z n some = get_or-take n z 0 0 some

some_taken : (z : List ℕ) (n : ℕ) → 0 < n → n ≤ length z → 0 < length (take n z)
some_taken z n some within = omega (arith, length-take-le n z within)

-- the run of a class that the first byte is of
abbrev run_of : (ℕ → Bool) → ℕ → List ℕ → ℕ
run_of p b t = prefix_len p (b ∷ t)

comment_formed : (b : ℕ) (t : List ℕ) → (b == 36) ≡ true → IsForm is.Comment (take (run_of is_in_line b t) (b ∷ t)) (drop (run_of is_in_line b t) (b ∷ t))
comment_formed b t e =
    let some = prefix_some is_in_line b t (grind (arith, nat_tests)) in
    (first_of (b ∷ t) (run_of is_in_line b t) some ∙ eqb-true b 36 e, run_passes is_in_line (b ∷ t))

letter_formed : (b : ℕ) (t : List ℕ) → is_ascii_alphabetic b ≡ true → IsWordText (take (run_of is_in_word b t) (b ∷ t))
letter_formed b t e =
    let some = prefix_some is_in_word b t (grind (arith, nat_tests)) in
    (some_taken (b ∷ t) (run_of is_in_word b t) some (prefix_len-le-length is_in_word (b ∷ t)), ap is_ascii_alphabetic (first_of (b ∷ t) (run_of is_in_word b t) some) ∙ e, run_passes is_in_word (b ∷ t))

pub piece_formed : (b : ℕ) (t : List ℕ) → Formed (b ∷ t) (piece_at (b ∷ t))
unfolding piece_at
piece_formed b t =
    let z : List ℕ = b ∷ t in
    let in_word = run_of is_in_word b t in
    let digits = run_of is_ascii_digit b t in
    by_test (Formed z) (is_blank b) _ _ (λ e. (refl, e))
    (λ _. by_test (Formed z) (b == 36) _ _ (λ e. comment_formed b t e)
    (λ _. by_test (Formed z) (is_ascii_alphabetic b) _ _ (λ e. word_formed (take in_word z) (drop in_word z) (letter_formed b t e))
    (λ _. by_test (Formed z) (is_ascii_digit b) _ _ (λ e. number_formed z digits (some_taken z digits (prefix_some is_ascii_digit b t e) (prefix_len-le-length is_ascii_digit z)) (run_passes is_ascii_digit z) (run_ends is_ascii_digit refl z))
    (λ _. by_test (Formed z) (b == 39) _ _ (λ e. subst (λ (x : ℕ). Formed (x ∷ t) (string_piece (string_end 1 t))) (sym (eqb-true b 39 e)) (string_formed t (string_end 1 t) (string_ends 1 t)))
    (λ _. sign_formed b t)))))
