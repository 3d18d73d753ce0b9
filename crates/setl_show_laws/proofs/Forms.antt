-- The bytes of a token are of its form.
use Rattle.std.proofs.Common.{◌≡◌, ◌≢◌, ℕ, ℤ, ◌+◌, ◌/◌, ◌%◌, ◌<◌, ◌≤◌, pos, true, false, leb, List, [], ◌∷◌, ◌++◌, length, length-append, get_or, Contains, refl, sym, ap, subst, ◌∙◌, arith}
use Rattle.std.proofs.lemmas.Bool.{leb-true}
use Rattle.std.proofs.lemmas.Bool.Decides.{nat_tests}
use Rattle.std.proofs.lemmas.Fmt.{decimal_by_steps_wide}
use Rattle.std.proofs.lemmas.Map.Views.{Contains-from_any}
use Rattle.std.proofs.lemmas.Slice.Eq.{bytes_eq-Decides}
use Rattle.std.proofs.lemmas.List.Folds.{list_all-append}
use Rattle.std.proofs.lemmas.List.Sums.{fold-append}
use Rattle.std.specs.Char.{is_ascii_digit, is_ascii_alphabetic}
use Rattle.std.specs.Fmt.{decimal, signed_decimal}
use Rattle.std.specs.List.{list_all, list_any}
use Rattle.std.specs.Str.{bytes_eq}
use Rattle.setl_tree.specs.declared.kind.Kind.{Kind}
use Rattle.setl_tree.specs.declared.kind.Kind.TheVariants as k
use Rattle.setl_token.specs.declared.TokenKind.{TokenKind}
use Rattle.setl_token.specs.declared.TokenKind.TheVariants as is
use Rattle.setl_token.specs.declared.pieces.PieceKind.TheVariants as piece
use Rattle.setl_token.specs.Bytes.{is_blank, is_in_word, lower, value_of, with_digit, limit}
use Rattle.setl_token.specs.Form.{IsForm, IsWordText}
use Rattle.setl_token.specs.Spellings.{spellings, spelling, IsSpelled, listed, signs}
use Rattle.setl_show.specs.Text.{bytes_of, behind}
use Rattle.setl_show_laws.specs.Reading.{IsLegal, IsNumberValue, Reads}

-- the sort of a token of this kind with this value
unfoldable pub sort_of : Kind → ℤ → TokenKind
sort_of k.Name value = is.Name
sort_of k.Number value = is.Number value
sort_of k.StringLiteral value = is.Str
sort_of k.Assign value = is.Sign
sort_of k.Dots value = is.Sign
sort_of k.NotEqual value = is.Sign
sort_of k.AtMost value = is.Sign
sort_of k.AtLeast value = is.Sign
sort_of k.Power value = is.Sign
sort_of k.Semicolon value = is.Sign
sort_of k.Colon value = is.Sign
sort_of k.Comma value = is.Sign
sort_of k.LeftParen value = is.Sign
sort_of k.RightParen value = is.Sign
sort_of k.LeftBrace value = is.Sign
sort_of k.RightBrace value = is.Sign
sort_of k.LeftBracket value = is.Sign
sort_of k.RightBracket value = is.Sign
sort_of k.Bar value = is.Sign
sort_of k.Equal value = is.Sign
sort_of k.LessThan value = is.Sign
sort_of k.GreaterThan value = is.Sign
sort_of k.Plus value = is.Sign
sort_of k.Minus value = is.Sign
sort_of k.Star value = is.Sign
sort_of k.Slash value = is.Sign
sort_of k.Hash value = is.Sign
sort_of _ value = is.Word

pub behind_blank : (kind : Kind) → is_blank (behind kind) ≡ true
unfolding behind
behind_blank k.Semicolon = refl
behind_blank _ = refl

pub no_digit : (b : ℕ) → is_blank b ≡ true → is_ascii_digit b ≡ false
no_digit b e = grind (arith, nat_tests)

pub no_apostrophe : (b : ℕ) → is_blank b ≡ true → b ≢ 39
no_apostrophe b e = grind (arith, nat_tests)

same_bytes : (x y : List ℕ) → bytes_eq x y ≡ true → x ≡ y
same_bytes x y e = (bytes_eq-Decides x y).0 e

found : (text : List ℕ) (texts : List (List ℕ)) → list_any (bytes_eq text) texts ≡ true → Contains texts text
found text texts e = Contains-from_any same_bytes text texts e

some_len : (n : ℕ) → leb 1 n ≡ true → 0 < n
some_len n e = omega (arith, leb-true 1 n e)

word_form : (text : List ℕ) → leb 1 (length text) ≡ true → is_ascii_alphabetic (get_or text 0 0) ≡ true → list_all is_in_word text ≡ true → list_any (bytes_eq (lower text)) listed ≡ true → IsWordText text × Contains listed (lower text)
word_form text a b c d = ((some_len (length text) a, b, c), found (lower text) listed d)

sign_form : (text : List ℕ) → list_any (bytes_eq text) signs ≡ true → Contains signs text
sign_form text e = found text signs e

pub spelled_form : (kind : Kind) → IsSpelled kind → (value : ℤ) (back : List ℕ) → IsForm (piece.Token (sort_of kind value)) (spelling kind) back
unfolding sort_of spellings spelling listed signs
spelled_form k.SourceEnd h value back = absurd h
spelled_form k.Name h value back = absurd h
spelled_form k.Number h value back = absurd h
spelled_form k.StringLiteral h value back = absurd h
spelled_form k.Assign h value back = sign_form (spelling k.Assign) refl
spelled_form k.Dots h value back = sign_form (spelling k.Dots) refl
spelled_form k.NotEqual h value back = sign_form (spelling k.NotEqual) refl
spelled_form k.AtMost h value back = sign_form (spelling k.AtMost) refl
spelled_form k.AtLeast h value back = sign_form (spelling k.AtLeast) refl
spelled_form k.Power h value back = sign_form (spelling k.Power) refl
spelled_form k.Semicolon h value back = sign_form (spelling k.Semicolon) refl
spelled_form k.Colon h value back = sign_form (spelling k.Colon) refl
spelled_form k.Comma h value back = sign_form (spelling k.Comma) refl
spelled_form k.LeftParen h value back = sign_form (spelling k.LeftParen) refl
spelled_form k.RightParen h value back = sign_form (spelling k.RightParen) refl
spelled_form k.LeftBrace h value back = sign_form (spelling k.LeftBrace) refl
spelled_form k.RightBrace h value back = sign_form (spelling k.RightBrace) refl
spelled_form k.LeftBracket h value back = sign_form (spelling k.LeftBracket) refl
spelled_form k.RightBracket h value back = sign_form (spelling k.RightBracket) refl
spelled_form k.Bar h value back = sign_form (spelling k.Bar) refl
spelled_form k.Equal h value back = sign_form (spelling k.Equal) refl
spelled_form k.LessThan h value back = sign_form (spelling k.LessThan) refl
spelled_form k.GreaterThan h value back = sign_form (spelling k.GreaterThan) refl
spelled_form k.Plus h value back = sign_form (spelling k.Plus) refl
spelled_form k.Minus h value back = sign_form (spelling k.Minus) refl
spelled_form k.Star h value back = sign_form (spelling k.Star) refl
spelled_form k.Slash h value back = sign_form (spelling k.Slash) refl
spelled_form k.Hash h value back = sign_form (spelling k.Hash) refl
spelled_form kind h value back = word_form (spelling kind) refl refl refl refl

pub spelled_reads : (kind : Kind) → IsSpelled kind → (text : List ℕ) (value : ℤ) → text ≡ [] → value ≡ pos 0 → Reads (sort_of kind value) (spelling kind) kind text value
unfolding sort_of spellings spelling
spelled_reads k.SourceEnd h text value e v = absurd h
spelled_reads k.Name h text value e v = absurd h
spelled_reads k.Number h text value e v = absurd h
spelled_reads k.StringLiteral h text value e v = absurd h
spelled_reads _ h text value e v = (h, refl, e, v)

-- ---- numbers

abbrev Decimal : ℕ → List ℕ → Type 0
Decimal n ds = (0 < length ds) × (list_all is_ascii_digit ds ≡ true) × (value_of ds ≡ n)

one_digit : (n : ℕ) → n < 10 → Decimal n ((48 + n) ∷ [])
one_digit n h = (omega arith, grind (arith, nat_tests), omega arith)

is_digit : (d : ℕ) → d < 10 → is_ascii_digit (48 + d) ≡ true
is_digit d h = grind (arith, nat_tests)

last_digit : (n v : ℕ) → v ≡ n / 10 → with_digit v (48 + n % 10) ≡ n
last_digit n v e = omega arith

digit_more : (n : ℕ) (ds : List ℕ) → 10 ≤ n → Decimal (n / 10) ds → Decimal n (ds ++ ((48 + n % 10) ∷ []))
digit_more n ds h d = (
  omega (arith, length-append ds ((48 + n % 10) ∷ [])),
  list_all-append is_ascii_digit ds ((48 + n % 10) ∷ []) ∙ rw (d.1, is_digit (n % 10) (omega arith)) refl,
  fold-append with_digit 0 ds ((48 + n % 10) ∷ []) ∙ last_digit n (value_of ds) d.2,
)

pub decimal_is : (n : ℕ) → n ≤ limit → Decimal n (decimal n)
decimal_is n h = decimal_by_steps_wide Decimal one_digit digit_more n (omega arith)

abbrev NumberForm : List ℕ → ℤ → Type 0
NumberForm back value = IsForm (piece.Token (is.Number value)) (signed_decimal value) back

number_form : (value : ℤ) (b : ℕ) (back : List ℕ) → IsNumberValue value → is_blank b ≡ true → NumberForm (b ∷ back) value
number_form value b back v e =
    let d = decimal_is v.size v.within in
    subst (NumberForm (b ∷ back)) (sym v.is) ((d.0, d.1, no_digit b e, omega (arith, d.2, v.within)), ap pos (sym d.2))

-- ---- all tokens that bytes can spell

pub form : (kind : Kind) (text : List ℕ) (value : ℤ) (b : ℕ) (back : List ℕ) → IsLegal kind text value → is_blank b ≡ true → IsForm (piece.Token (sort_of kind value)) (bytes_of kind text value) (b ∷ back)
unfolding IsLegal sort_of bytes_of
form k.SourceEnd text value b back h e = absurd h
form k.Name text value b back h e = (h.0.form, λ c. h.0.free (subst (λ (z : List ℕ). Contains listed z) h.0.low c))
form k.Number text value b back h e = number_form value b back h.1 e
form k.StringLiteral text value b back h e = record { body = text; text_is = refl; in_line = h.0; closed = no_apostrophe b e }
form kind text value b back h e = spelled_form kind tt value (b ∷ back)

pub reads : (kind : Kind) (text : List ℕ) (value : ℤ) → IsLegal kind text value → Reads (sort_of kind value) (bytes_of kind text value) kind text value
unfolding IsLegal sort_of bytes_of
reads k.SourceEnd text value h = absurd h
reads k.Name text value h = (refl, sym h.0.low, h.1)
reads k.Number text value h = (refl, h.0, refl)
reads k.StringLiteral text value h = (refl, refl, h.1)
reads kind text value h = spelled_reads kind tt text value h.0 h.1
