-- No text at the front that has a form is longer than the piece that begins there.
use Rattle.std.proofs.Common.{◌≡◌, ◌≢◌, ℕ, zero, suc, ◌+◌, ◌<◌, ◌≤◌, ◌==◌, pos, Bool, true, false, cond, List, [], ◌∷◌, ◌++◌, length, take, drop, get_or, Option, Some, Result, Ok, Err, Contains, refl, sym, ap, subst, ◌∙◌, arith}
use Rattle.std.proofs.lemmas.Bool.{le-leb, ne_eqb, and_parts, not-true}
use Rattle.std.proofs.lemmas.Bool.Decides.{nat_tests}
use Rattle.std.proofs.lemmas.List.{length-take-le, take-append-drop, append_assoc, length-append}
use Rattle.std.proofs.lemmas.List.Elements.{All-from_recursion}
use Rattle.std.specs.Char.{is_ascii_digit, is_ascii_alphabetic}
use Rattle.std.specs.List.{prefix_len, list_all, AllByRecursion}
use Rattle.setl_token.specs.declared.TokenKind.{TokenKind}
use Rattle.setl_token.specs.declared.TokenKind.TheVariants as kind
use Rattle.setl_token.specs.declared.Cause.{Cause}
use Rattle.setl_token.specs.declared.pieces.PieceKind.{PieceKind}
use Rattle.setl_token.specs.declared.pieces.PieceKind.TheVariants as is
use Rattle.setl_token.specs.declared.pieces.Piece.{Piece}
use Rattle.setl_token.specs.Bytes.{is_blank, is_in_line, is_in_word, lower, value_of, limit}
use Rattle.setl_token.specs.Spellings.{spellings, listed, signs, is_reserved}
use Rattle.setl_token.specs.code.Pieces.{piece_at, piece, word_kind, string_end, string_piece, sign_piece, number_piece, within_limit}
use Rattle.setl_token.specs.Form.{IsForm, IsWordText, IsNumberText, IsStringText, doubled}
use Rattle.setl_token.proofs.Runs.{run_covers, run_first, run_is}
use Rattle.setl_token.proofs.Strings.{string_end_step}
use Rattle.setl_token.proofs.Fits.{by_test}
use Rattle.setl_token.proofs.Formed.{found_contains, contains_found, first_of}

-- the piece is at least so long, and of this kind if it is just so long
abbrev pub CoveredBy : PieceKind → ℕ → Result Piece Cause → Type 0
CoveredBy k n (Ok p) = (n ≤ p.len) × (n ≡ p.len → k ≡ p.kind)
CoveredBy k n (Err c) = ⊥

abbrev pub first : List ℕ → ℕ
first z = get_or z 0 0

at_blank : (z : List ℕ) → is_blank (first z) ≡ true → piece_at z ≡ Ok (piece is.Blank 1)
unfolding piece_at
at_blank z e = rw e refl

at_comment : (z : List ℕ) → first z ≡ 36 → piece_at z ≡ Ok (piece is.Comment (prefix_len is_in_line z))
unfolding piece_at
at_comment z e = rw e refl

pub at_letter : (z : List ℕ) → is_ascii_alphabetic (first z) ≡ true → piece_at z ≡ Ok (piece (is.Token (word_kind (take (prefix_len is_in_word z) z))) (prefix_len is_in_word z))
unfolding piece_at
at_letter z e =
    let blank : is_blank (first z) ≡ false = grind (arith, nat_tests) in
    let dollar : (first z == 36) ≡ false = grind (arith, nat_tests) in
    rw (blank, dollar, e) refl

at_digit : (z : List ℕ) → is_ascii_digit (first z) ≡ true → piece_at z ≡ number_piece (prefix_len is_ascii_digit z) (within_limit (value_of (take (prefix_len is_ascii_digit z) z)))
unfolding piece_at
at_digit z e =
    let blank : is_blank (first z) ≡ false = grind (arith, nat_tests) in
    let dollar : (first z == 36) ≡ false = grind (arith, nat_tests) in
    let letter : is_ascii_alphabetic (first z) ≡ false = grind (arith, nat_tests) in
    rw (blank, dollar, letter, e) refl

at_quote : (z : List ℕ) → first z ≡ 39 → piece_at z ≡ string_piece (string_end 1 (drop 1 z))
unfolding piece_at
at_quote z e = rw e refl

blank_covered : (z : List ℕ) (n : ℕ) → n ≤ length z → IsForm is.Blank (take n z) (drop n z) → CoveredBy is.Blank n (piece_at z)
blank_covered z n within form =
    let one : n ≡ 1 = omega (arith, length-take-le n z within, form.0) in
    let blank : is_blank (first z) ≡ true = ap is_blank (sym (first_of z n (omega arith))) ∙ form.1 in
    subst (CoveredBy is.Blank n) (sym (at_blank z blank)) (omega arith, λ _. refl)

some_from_first : (z : List ℕ) (n b : ℕ) → 0 < b → first (take n z) ≡ b → 0 < n
some_from_first z zero b some e = absurd (omega (arith, e))
some_from_first z (suc n) b some e = omega arith

comment_covered : (z : List ℕ) (n : ℕ) → n ≤ length z → IsForm is.Comment (take n z) (drop n z) → CoveredBy is.Comment n (piece_at z)
comment_covered z n within form =
    let some = some_from_first z n 36 (omega arith) form.0 in
    subst (CoveredBy is.Comment n) (sym (at_comment z (sym (first_of z n some) ∙ form.0))) (run_covers is_in_line z n within form.1, λ _. refl)

word_covered : (z : List ℕ) (n : ℕ) (k : TokenKind) → n ≤ length z → IsWordText (take n z) → k ≡ word_kind (take n z) → CoveredBy (is.Token k) n (piece_at z)
word_covered z n k within form e =
    let some : 0 < n = omega (arith, form.0, length-take-le n z within) in
    subst (CoveredBy (is.Token k) n) (sym (at_letter z (ap is_ascii_alphabetic (sym (first_of z n some)) ∙ form.1)))
    (run_covers is_in_word z n within form.2, λ same. ap is.Token (e ∙ ap (λ (m : ℕ). word_kind (take m z)) same))

pub is_word : (text : List ℕ) → Contains listed (lower text) → kind.Word ≡ word_kind text
is_word text c = let e = found_contains (lower text) listed c in rw e refl

not_reserved : (t : List ℕ) (b : Bool) → is_reserved t ≡ b → (Contains listed t → ⊥) → is_reserved t ≡ false
not_reserved t true e none = absurd (none (contains_found t listed e))
not_reserved t false e none = e

pub is_name : (text : List ℕ) → (Contains listed (lower text) → ⊥) → kind.Name ≡ word_kind text
is_name text none = let e = not_reserved (lower text) (is_reserved (lower text)) refl none in rw e refl

pub number_here : (z : List ℕ) (n : ℕ) → n ≤ length z → IsNumberText (take n z) (drop n z) → piece_at z ≡ Ok (piece (is.Token (kind.Number (pos (value_of (take n z))))) n)
number_here z n within form =
    let some : 0 < n = omega (arith, form.0, length-take-le n z within) in
    let digit : is_ascii_digit (first z) ≡ true = ap is_ascii_digit (sym (first_of z n some)) ∙ run_first is_ascii_digit (take n z) form.0 form.1 in
    let whole : n ≡ prefix_len is_ascii_digit z = run_is is_ascii_digit z n within form.1 form.2 in
    let fits : within_limit (value_of (take n z)) ≡ Some (value_of (take n z)) = let l = le-leb (value_of (take n z)) limit form.3 in rw l refl in
    at_digit z digit ∙ ap (λ (m : ℕ). number_piece m (within_limit (value_of (take m z)))) (sym whole) ∙ ap (number_piece n) fits

number_covered : (z : List ℕ) (n : ℕ) (k : TokenKind) → n ≤ length z → IsNumberText (take n z) (drop n z) → k ≡ kind.Number (pos (value_of (take n z))) → CoveredBy (is.Token k) n (piece_at z)
number_covered z n k within form e = subst (CoveredBy (is.Token k) n) (sym (number_here z n within form)) (omega arith, λ _. ap is.Token e)

abbrev ends_at : ℕ → Option ℕ
ends_at n = Some n

string_closes : (at : ℕ) (behind : List ℕ) → first behind ≢ 39 → string_end at (39 ∷ behind) ≡ ends_at (at + 1)
string_closes at [] closed = refl
string_closes at (b ∷ z) closed = rw (ne_eqb b 39 closed) refl

string_end_is : (at : ℕ) (body behind : List ℕ) → list_all is_in_line body ≡ true → first behind ≢ 39 → string_end at (doubled body ++ 39 ∷ behind) ≡ ends_at (at + length (doubled body) + 1)
string_end_is at [] behind in_line closed = let e : at + 1 ≡ at + 0 + 1 = omega arith in string_closes at behind closed ∙ ap ends_at e
string_end_is at (b ∷ body) behind in_line closed =
    let both = and_parts (is_in_line b) (list_all is_in_line body) in_line in
    by_test (λ (xs : List ℕ). string_end at (xs ++ 39 ∷ behind) ≡ ends_at (at + length xs + 1)) (b == 39) (39 ∷ 39 ∷ doubled body) (b ∷ doubled body)
    (λ e. let len : at + 2 + length (doubled body) + 1 ≡ at + suc (suc (length (doubled body))) + 1 = omega arith in
    string_end_is (at + 2) body behind both.1 closed ∙ ap ends_at len)
    (λ e. let len : at + 1 + length (doubled body) + 1 ≡ at + suc (length (doubled body)) + 1 = omega arith in
    let line : (b == 10) ≡ false = not-true (b == 10) both.0 in
    string_end_step at b (doubled body ++ 39 ∷ behind) ∙ rw (e, line) (string_end_is (at + 1) body behind both.1 closed ∙ ap ends_at len))

abbrev pub string_of : ℕ → Result Piece Cause
string_of n = Ok (piece (is.Token kind.Str) n)

pub string_here : (z : List ℕ) (n : ℕ) → n ≤ length z → IsStringText (take n z) (drop n z) → piece_at z ≡ string_of n
string_here z n within form =
    let inner = doubled form.body in
    let behind = drop n z in
    let whole : z ≡ 39 ∷ (inner ++ 39 ∷ behind) =
    sym (take-append-drop n z) ∙ ap (λ (y : List ℕ). y ++ behind) form.text_is ∙ ap (λ (y : List ℕ). 39 ∷ y) (append_assoc inner (39 ∷ []) behind) in
    let len : 1 + length inner + 1 ≡ n = omega (arith, length-take-le n z within, ap length form.text_is, length-append inner (39 ∷ [])) in
    ap piece_at whole ∙ at_quote (39 ∷ (inner ++ 39 ∷ behind)) refl ∙ ap string_piece (string_end_is 1 form.body behind form.in_line form.closed) ∙ ap string_of len

string_covered : (z : List ℕ) (n : ℕ) → n ≤ length z → IsStringText (take n z) (drop n z) → CoveredBy (is.Token kind.Str) n (piece_at z)
string_covered z n within form = subst (CoveredBy (is.Token kind.Str) n) (sym (string_here z n within form)) (omega arith, λ _. refl)

abbrev SignCovered : List ℕ → Type 0
SignCovered s = (rest : List ℕ) → CoveredBy (is.Token kind.Sign) (length s) (piece_at (s ++ rest))

at_least_one : (pair : Bool) → CoveredBy (is.Token kind.Sign) 1 (sign_piece (cond pair 2 1))
at_least_one true = (omega arith, λ _. refl)
at_least_one false = (omega arith, λ _. refl)

signs_covered : AllByRecursion SignCovered signs
unfolding piece_at spellings listed signs
signs_covered =
    let pair : (2 ≤ 2) × (2 ≡ 2 → is.Token kind.Sign ≡ is.Token kind.Sign) = (omega arith, λ _. refl) in (λ r. at_least_one _, (λ r. at_least_one _, (λ r. at_least_one _, (λ r. at_least_one _, (λ r. at_least_one _, (λ r. at_least_one _, (λ r. at_least_one _, (λ r. at_least_one _, (λ r. at_least_one _, (λ r. at_least_one _, (λ r. at_least_one _, (λ r. at_least_one _, (λ r. at_least_one _, (λ r. at_least_one _, (λ r. at_least_one _, (λ r. at_least_one _, (λ r. at_least_one _, (λ r. at_least_one _, (λ r. pair, (λ r. pair, (λ r. pair, (λ r. pair, (λ r. pair, (λ r. pair, tt))))))))))))))))))))))))

sign_covered : (z : List ℕ) (n : ℕ) → n ≤ length z → Contains signs (take n z) → CoveredBy (is.Token kind.Sign) n (piece_at z)
sign_covered z n within c =
    let each = All-from_recursion SignCovered signs signs_covered in
    let here : SignCovered (take n z) = subst SignCovered c.2 (each c.0 (take n z) c.1) in
    let whole = subst (λ (y : List ℕ). CoveredBy (is.Token kind.Sign) (length (take n z)) (piece_at y)) (take-append-drop n z) (here (drop n z)) in
    subst (λ (m : ℕ). CoveredBy (is.Token kind.Sign) m (piece_at z)) (length-take-le n z within) whole

pub form_covered : (z : List ℕ) (k : PieceKind) (n : ℕ) → n ≤ length z → IsForm k (take n z) (drop n z) → CoveredBy k n (piece_at z)
form_covered z is.Blank n within form = blank_covered z n within form
form_covered z is.Comment n within form = comment_covered z n within form
form_covered z (is.Token kind.Word) n within form = word_covered z n kind.Word within form.0 (is_word (take n z) form.1)
form_covered z (is.Token kind.Name) n within form = word_covered z n kind.Name within form.0 (is_name (take n z) form.1)
form_covered z (is.Token (kind.Number v)) n within form = number_covered z n (kind.Number v) within form.0 (ap kind.Number form.1)
form_covered z (is.Token kind.Str) n within form = string_covered z n within form
form_covered z (is.Token kind.Sign) n within form = sign_covered z n within form
