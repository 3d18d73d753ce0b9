-- A token that a blank follows is the longest that begins at its place.
use Rattle.std.proofs.Common.{◌≡◌, ℕ, ◌<◌, ◌≤◌, Bool, true, false, cond, List, ◌∷◌, ◌++◌, length, take, drop, Result, Ok, Contains, refl, sym, ap, subst, ◌∙◌, arith, length-append}
use Rattle.std.proofs.lemmas.Bool.Decides.{nat_tests}
use Rattle.std.proofs.lemmas.List.{take_at, drop_at, length-take-le}
use Rattle.std.proofs.lemmas.List.Elements.{All-from_recursion}
use Rattle.std.specs.Char.{is_ascii_alphabetic}
use Rattle.std.specs.List.{prefix_len, AllByRecursion}
use Rattle.setl_token.specs.declared.TokenKind.{TokenKind}
use Rattle.setl_token.specs.declared.TokenKind.TheVariants as kind
use Rattle.setl_token.specs.declared.Cause.{Cause}
use Rattle.setl_token.specs.declared.pieces.PieceKind.TheVariants as is
use Rattle.setl_token.specs.declared.pieces.Piece.{Piece}
use Rattle.setl_token.specs.Bytes.{is_blank, is_in_word}
use Rattle.setl_token.specs.code.Pieces.{piece_at, piece, word_kind, sign_piece, is_sign_pair}
use Rattle.setl_token.specs.Form.{IsForm, IsWordText, IsLongest}
use Rattle.setl_token.specs.Spellings.{spellings, listed, signs}
use Rattle.setl_token.proofs.Runs.{run_is}
use Rattle.setl_token.proofs.Formed.{first_of}
use Rattle.setl_token.proofs.Covered.{first, at_letter, is_word, is_name, number_here, string_here}
use Rattle.setl_token.proofs.Longest.{longest_of}

abbrev token : TokenKind → ℕ → Result Piece Cause
token k n = Ok (piece (is.Token k) n)

no_pair : (c b : ℕ) → is_blank b ≡ true → is_sign_pair c b ≡ false
no_pair c b e = grind (arith, nat_tests)

not_in_word : (b : ℕ) → is_blank b ≡ true → is_in_word b ≡ false
not_in_word b e = grind (arith, nat_tests)

word_apart : (z : List ℕ) (n b : ℕ) (rest : List ℕ) (k : TokenKind) → n ≤ length z → drop n z ≡ b ∷ rest → is_blank b ≡ true → IsWordText (take n z) → k ≡ word_kind (take n z) → piece_at z ≡ token k n
word_apart z n b rest k within behind blank form e =
    let some : 0 < n = omega (arith, form.0, length-take-le n z within) in
    let ends : is_in_word (first (drop n z)) ≡ false = ap (λ (y : List ℕ). is_in_word (first y)) behind ∙ not_in_word b blank in
    let whole : n ≡ prefix_len is_in_word z = run_is is_in_word z n within form.2 ends in
    at_letter z (ap is_ascii_alphabetic (sym (first_of z n some)) ∙ form.1)
    ∙ ap (λ (m : ℕ). token (word_kind (take m z)) m) (sym whole) ∙ ap (λ (t : TokenKind). token t n) (sym e)

abbrev SignApart : List ℕ → Type 0
SignApart s = (b : ℕ) (rest : List ℕ) → is_blank b ≡ true → piece_at (s ++ b ∷ rest) ≡ token kind.Sign (length s)

single_apart : (pair : Bool) → pair ≡ false → sign_piece (cond pair 2 1) ≡ token kind.Sign 1
single_apart pair e = rw e refl

signs_apart : AllByRecursion SignApart signs
unfolding piece_at spellings listed signs
signs_apart = (λ b r e. single_apart _ (no_pair 59 b e), (λ b r e. single_apart _ (no_pair 58 b e), (λ b r e. single_apart _ (no_pair 44 b e), (λ b r e. single_apart _ (no_pair 40 b e), (λ b r e. single_apart _ (no_pair 41 b e), (λ b r e. single_apart _ (no_pair 123 b e), (λ b r e. single_apart _ (no_pair 125 b e), (λ b r e. single_apart _ (no_pair 91 b e), (λ b r e. single_apart _ (no_pair 93 b e), (λ b r e. single_apart _ (no_pair 124 b e), (λ b r e. single_apart _ (no_pair 61 b e), (λ b r e. single_apart _ (no_pair 60 b e), (λ b r e. single_apart _ (no_pair 62 b e), (λ b r e. single_apart _ (no_pair 43 b e), (λ b r e. single_apart _ (no_pair 45 b e), (λ b r e. single_apart _ (no_pair 42 b e), (λ b r e. single_apart _ (no_pair 47 b e), (λ b r e. single_apart _ (no_pair 35 b e), (λ b r e. refl, (λ b r e. refl, (λ b r e. refl, (λ b r e. refl, (λ b r e. refl, (λ b r e. refl, tt))))))))))))))))))))))))

sign_apart : (s : List ℕ) → Contains signs s → SignApart s
sign_apart s c = subst SignApart c.2 (All-from_recursion SignApart signs signs_apart c.0 s c.1)

-- by what stands at the front and behind it
abbrev Apart : TokenKind → List ℕ → List ℕ → Type 0
Apart k text behind = piece_at (text ++ behind) ≡ token k (length text)

front_apart : (z : List ℕ) (n b : ℕ) (rest : List ℕ) (k : TokenKind) → n ≤ length z → drop n z ≡ b ∷ rest → is_blank b ≡ true → IsForm (is.Token k) (take n z) (drop n z) → z ≡ take n z ++ b ∷ rest → length (take n z) ≡ n → piece_at z ≡ token k n
front_apart z n b rest kind.Word within behind blank form parts len = word_apart z n b rest kind.Word within behind blank form.0 (is_word (take n z) form.1)
front_apart z n b rest kind.Name within behind blank form parts len = word_apart z n b rest kind.Name within behind blank form.0 (is_name (take n z) form.1)
front_apart z n b rest (kind.Number v) within behind blank form parts len = number_here z n within form.0 ∙ ap (λ (t : TokenKind). token t n) (ap kind.Number (sym form.1))
front_apart z n b rest kind.Str within behind blank form parts len = string_here z n within form
front_apart z n b rest kind.Sign within behind blank form parts len = ap piece_at parts ∙ sign_apart (take n z) form b rest blank ∙ ap (token kind.Sign) len

pub token_apart : (k : TokenKind) (text : List ℕ) (b : ℕ) (rest : List ℕ) → IsForm (is.Token k) text (b ∷ rest) → is_blank b ≡ true → IsLongest (text ++ b ∷ rest) (piece (is.Token k) (length text))
token_apart k text b rest form blank =
    let z : List ℕ = text ++ b ∷ rest in
    let n : ℕ = length text in
    let front : take n z ≡ text = take_at text (b ∷ rest) n refl in
    let behind : drop n z ≡ b ∷ rest = drop_at text (b ∷ rest) n refl in
    let within : n ≤ length z = omega (arith, length-append text (b ∷ rest)) in
    let same : IsForm (is.Token k) (take n z) (drop n z) = subst (λ (x : List ℕ). IsForm (is.Token k) x (drop n z)) (sym front) (subst (λ (y : List ℕ). IsForm (is.Token k) text y) (sym behind) form) in
    let here = front_apart z n b rest k within behind blank same (ap (λ (x : List ℕ). x ++ b ∷ rest) (sym front)) (ap length front) in
    longest_of z (piece (is.Token k) n) (omega (arith, length-append text (b ∷ rest))) here
