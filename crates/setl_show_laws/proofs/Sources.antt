-- The tokens of a source are legal.
use Rattle.std.proofs.Common.{◌≡◌, ℕ, ℤ, ◌==◌, pos, Bool, true, false, ◌&&◌, List, [], ◌∷◌, drop, Contains, refl, sym, ap, subst, ◌∙◌, arith}
use Rattle.std.proofs.lemmas.Bool.{and_parts}
use Rattle.std.proofs.lemmas.Bool.Decides.{nat_tests}
use Rattle.std.proofs.lemmas.List.Folds.{list_all-append}
use Rattle.std.specs.Char.{is_ascii_alphabetic, to_ascii_lowercase}
use Rattle.std.specs.List.{list_all}
use Rattle.setl_tree.specs.declared.kind.Kind.{Kind}
use Rattle.setl_tree.specs.declared.kind.Kind.TheVariants as k
use Rattle.setl_tree.specs.Tokens.{Tokens}
use Rattle.setl_token.specs.declared.Token.{Token as Lexeme}
use Rattle.setl_token.specs.declared.TokenKind.{TokenKind}
use Rattle.setl_token.specs.declared.TokenKind.TheVariants as kind
use Rattle.setl_token.specs.declared.pieces.PieceKind.TheVariants as is
use Rattle.setl_token.specs.Bytes.{is_in_word, is_in_line, lower, value_of}
use Rattle.setl_token.specs.Form.{IsForm, IsWordText, IsStringText, doubled}
use Rattle.setl_token.specs.Spellings.{listed}
use Rattle.setl_token.specs.Text.{token_text}
use Rattle.setl_token.specs.Spellings.{IsSpelled}
use Rattle.setl_show.specs.Text.{quoted}
use Rattle.setl_show_laws.specs.Reading.{Reads, AreRead, IsSpelledAs, IsNameText, IsNumberValue, IsLegal, AllLegal, AreLegal}
use Rattle.setl_show_laws.proofs.Formed.{AllFormed, all_formed}

-- ---- one token

spelled_legal : (kind : Kind) (text : List ℕ) (value : ℤ) → IsSpelled kind → text ≡ [] → value ≡ pos 0 → IsLegal kind text value
unfolding IsLegal
spelled_legal k.SourceEnd text value h e f = absurd h
spelled_legal k.Name text value h e f = absurd h
spelled_legal k.Number text value h e f = absurd h
spelled_legal k.StringLiteral text value h e f = absurd h
spelled_legal _ text value h e f = (e, f)

low_letter : (b : ℕ) → is_ascii_alphabetic b ≡ true → is_ascii_alphabetic (to_ascii_lowercase b) ≡ true
low_letter b h = grind (arith, nat_tests)

low_in_word : (b : ℕ) → is_in_word b ≡ true → is_in_word (to_ascii_lowercase b) ≡ true
low_in_word b h = grind (arith, nat_tests)

low_twice : (b : ℕ) → to_ascii_lowercase (to_ascii_lowercase b) ≡ to_ascii_lowercase b
low_twice b = grind (arith, nat_tests)

lower_in_word : (xs : List ℕ) → list_all is_in_word xs ≡ true → list_all is_in_word (lower xs) ≡ true
lower_in_word [] h = refl
lower_in_word (b ∷ xs) h =
    let parts = and_parts (is_in_word b) (list_all is_in_word xs) h in
    rw (low_in_word b parts.0, lower_in_word xs parts.1) refl

lower_twice : (xs : List ℕ) → lower (lower xs) ≡ lower xs
lower_twice [] = refl
lower_twice (b ∷ xs) = ap (λ (c : ℕ). c ∷ lower (lower xs)) (low_twice b) ∙ ap (λ (ys : List ℕ). to_ascii_lowercase b ∷ ys) (lower_twice xs)

lower_word : (text : List ℕ) → IsWordText text → IsWordText (lower text)
lower_word [] h = absurd (omega (arith, h.0))
lower_word (b ∷ xs) h = (omega arith, low_letter b h.1, lower_in_word (b ∷ xs) h.2)

lower_name : (text : List ℕ) → IsWordText text → (Contains listed (lower text) → ⊥) → IsNameText (lower text)
lower_name text h free = record {
  form = lower_word text h;
  free = free;
  low = lower_twice text;
}

doubled_if : (b : ℕ) (test : Bool) (body : List ℕ) → (b == 39) ≡ test → list_all is_in_line (doubled body) ≡ list_all is_in_line body → list_all is_in_line (doubled (b ∷ body)) ≡ list_all is_in_line (b ∷ body)
doubled_if b true body e h = rw (e, h) (grind (arith, nat_tests))
doubled_if b false body e h = rw (e, h) refl

in_line_doubled : (body : List ℕ) → list_all is_in_line (doubled body) ≡ list_all is_in_line body
in_line_doubled [] = refl
in_line_doubled (b ∷ body) = doubled_if b (b == 39) body refl (in_line_doubled body)

in_line_quoted : (text : List ℕ) → list_all is_in_line (quoted text) ≡ (list_all is_in_line text && true)
in_line_quoted text = list_all-append is_in_line (doubled text) (39 ∷ []) ∙ ap (λ (b : Bool). b && true) (in_line_doubled text)

quoted_in_line : (bytes text back : List ℕ) → IsStringText bytes back → bytes ≡ quoted text → list_all is_in_line text ≡ true
quoted_in_line bytes text back s e =
    let whole : list_all is_in_line (quoted text) ≡ true = ap (list_all is_in_line) (sym e ∙ s.text_is) ∙ in_line_quoted s.body ∙ ap (λ (b : Bool). b && true) s.in_line in
    (and_parts (list_all is_in_line text) true (sym (in_line_quoted text) ∙ whole)).0

as_kind : (K : Kind) (kind : Kind) (text : List ℕ) (value : ℤ) → kind ≡ K → IsLegal K text value → IsLegal kind text value
as_kind K kind text value e h = subst (λ (z : Kind). IsLegal z text value) (sym e) h

name_legal : (text : List ℕ) (value : ℤ) → IsNameText text → value ≡ pos 0 → IsLegal k.Name text value
unfolding IsLegal
name_legal text value h e = (h, e)

number_legal : (text : List ℕ) (value : ℤ) → text ≡ [] → IsNumberValue value → IsLegal k.Number text value
unfolding IsLegal
number_legal text value e h = (e, h)

string_legal : (text : List ℕ) (value : ℤ) → list_all is_in_line text ≡ true → value ≡ pos 0 → IsLegal k.StringLiteral text value
unfolding IsLegal
string_legal text value h e = (h, e)

token_legal : (s : TokenKind) (bytes back : List ℕ) (kind : Kind) (text : List ℕ) (value : ℤ) → IsForm (is.Token s) bytes back → Reads s bytes kind text value → IsLegal kind text value
token_legal kind.Word bytes back K text value form r = spelled_legal K text value r.0 r.2 r.3
token_legal kind.Sign bytes back K text value form r = spelled_legal K text value r.0 r.2 r.3
token_legal kind.Name bytes back K text value form r = as_kind k.Name K text value r.0 (name_legal text value (subst IsNameText (sym r.1) (lower_name bytes form.0 form.1)) r.2)
token_legal (kind.Number n) bytes back K text value form r = as_kind k.Number K text value r.0 (number_legal text value r.1 (record { size = value_of bytes; within = form.0.3; is = r.2 ∙ form.1 }))
token_legal kind.Str bytes back K text value form r = as_kind k.StringLiteral K text value r.0 (string_legal text value (quoted_in_line bytes text back form r.1) r.2)

-- ---- all tokens

all_legal : (source : List ℕ) (ls : List Lexeme) (toks : Tokens) → AllFormed source ls → AreRead source ls toks → AllLegal toks
all_legal source [] [] form r = tt
all_legal source [] (t ∷ toks) form r = absurd r
all_legal source (l ∷ ls) [] form r = absurd r
all_legal source (l ∷ ls) (t ∷ toks) form r =
    (token_legal l.kind (token_text source l) (drop l.to source) t.kind t.text t.value form.0.form r.0, all_legal source ls toks form.1 r.1)

-- what the tokens of a source read as
pub source_legal : (source : List ℕ) (toks : Tokens) → IsSpelledAs source toks → AreLegal toks
source_legal source toks s = record { all = all_legal source s.lexemes toks (all_formed source s.lexemes s.spelled) s.read }
