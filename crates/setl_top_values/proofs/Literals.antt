-- The literals among the tokens of a source of bytes hold values.
use Rattle.std.proofs.Common.{◌≡◌, ◌<◌, ◌≤◌, ◌==◌, ◌+◌, ◌-◌, ℕ, ℤ, pos, Bool, true, false, cond, List, [], ◌∷◌, map, take, drop, length, refl, ap, sym, subst, ◌∙◌, arith}
use Rattle.std.specs.List.{AllByRecursion, list_all}
use Rattle.std.proofs.lemmas.Bool.{and_parts}
use Rattle.std.proofs.lemmas.List.{drop-drop}
use Rattle.setl_tree.specs.declared.kind.Kind.{Kind}
use Rattle.setl_tree.specs.declared.kind.Kind.TheVariants as k
use Rattle.setl_tree.specs.Tokens.{Tokens}
use Rattle.setl_token.specs.declared.Token.{Token as Lexeme}
use Rattle.setl_token.specs.declared.TokenKind.{TokenKind}
use Rattle.setl_token.specs.declared.TokenKind.TheVariants as kind
use Rattle.setl_token.specs.declared.pieces.PieceKind.{PieceKind}
use Rattle.setl_token.specs.declared.pieces.PieceKind.TheVariants as is
use Rattle.setl_token.specs.declared.pieces.Piece.{Piece}
use Rattle.setl_token.specs.Bytes.{is_in_line}
use Rattle.setl_token.specs.Form.{IsForm, IsStringText, doubled}
use Rattle.setl_token.specs.Lex.{Spelled, CutsInto, line_at, token_of, tokens_of}
use Rattle.setl_token.specs.Text.{token_text}
use Rattle.setl_parse_cursor.specs.Plain.{kind_of, content_of, value_of, undoubled, inside, plain_token, plain_tokens}
use Rattle.setl_value.specs.WellFormed.{IsTextByte, IsWide}
use Rattle.setl_operators_laws.specs.Lists.{all_append, all_take, all_drop}
use Rattle.setl_model_values.specs.ModelValues.{AreBytes}

-- what a token of this kind holds, if it is a literal, is a value
unfoldable pub LiteralStands : Kind → List ℕ → ℤ → Type 0
LiteralStands k.Number text value = IsWide value
LiteralStands k.StringLiteral text value = AllByRecursion IsTextByte text
LiteralStands _ text value = Unit {0}

abbrev pub AllStand : Tokens → Type 0
AllStand [] = Unit {0}
AllStand (t ∷ toks) = LiteralStands t.kind t.text t.value × AllStand toks

-- ---- bytes of strings

-- no line feed
abbrev InLine : ℕ → Type 0
InLine b = (b ≡ 10) → ⊥

all_doubled_by : (P : ℕ → Type 0) (twice : Bool) (b : ℕ) (t : List ℕ) → P 39 → P b → AllByRecursion P t → AllByRecursion P (cond twice (39 ∷ 39 ∷ t) (b ∷ t))
all_doubled_by P true b t q h g = (q, (q, g))
all_doubled_by P false b t q h g = (h, g)

all_doubled : (P : ℕ → Type 0) (t : List ℕ) → P 39 → AllByRecursion P t → AllByRecursion P (doubled t)
all_doubled P [] q h = tt
all_doubled P (b ∷ t) q h = all_doubled_by P (b == 39) b (doubled t) q h.0 (all_doubled P t q h.1)

undoubled_by : (P : ℕ → Type 0) (twice : Bool) (b : ℕ) (short long : List ℕ) → P b → AllByRecursion P short → AllByRecursion P long → AllByRecursion P (cond twice (b ∷ short) (b ∷ long))
undoubled_by P true b short long h g i = (h, g)
undoubled_by P false b short long h g i = (h, i)

all_undoubled : (P : ℕ → Type 0) (t : List ℕ) → AllByRecursion P t → AllByRecursion P (undoubled t)
all_undoubled P [] h = tt
all_undoubled P (b ∷ []) h = h
all_undoubled P (b ∷ c ∷ t) h = undoubled_by P (b == 39) b (undoubled t) (undoubled (c ∷ t)) h.0 (all_undoubled P t h.1.1) (all_undoubled P (c ∷ t) h.1)

in_line : (b : ℕ) → is_in_line b ≡ true → InLine b
in_line b h e = let no : is_in_line 10 ≡ true = subst (λ z. is_in_line z ≡ true) e h in absurd (cc)

all_in_line : (t : List ℕ) → list_all is_in_line t ≡ true → AllByRecursion InLine t
all_in_line [] h = tt
all_in_line (b ∷ t) h = let parts = and_parts (is_in_line b) (list_all is_in_line t) h in (in_line b parts.0, all_in_line t parts.1)

text_bytes : (t : List ℕ) → AreBytes t → AllByRecursion InLine t → AllByRecursion IsTextByte t
text_bytes [] h g = tt
text_bytes (b ∷ t) h g = ((h.0, g.0), text_bytes t h.1 g.1)

string_in_line : (text behind : List ℕ) → IsStringText text behind → AllByRecursion InLine text
string_in_line text behind s =
    let quote : InLine 39 = λ e. absurd (cc) in
    subst (AllByRecursion InLine) (sym s.text_is)
    (quote, all_append InLine (doubled s.body) (39 ∷ []) (all_doubled InLine s.body quote (all_in_line s.body s.in_line)) (quote, tt))

string_stands : (text behind : List ℕ) → AreBytes text → IsStringText text behind → AllByRecursion IsTextByte (undoubled (inside text))
string_stands text behind h s =
    let all = text_bytes text h (string_in_line text behind s) in
    all_undoubled IsTextByte (inside text) (all_take IsTextByte (length text - 2) (drop 1 text) (all_drop IsTextByte 1 text all))

-- ---- one token

-- what stands for no literal
plain_stands : (what : Kind) → LiteralStands what [] (pos 0)
unfolding LiteralStands
plain_stands k.Number = omega arith
plain_stands k.StringLiteral = tt
plain_stands _ = tt

number_stands : (n : ℤ) (v : ℕ) → n ≡ pos v → v ≤ 170141183460469231731687303715884105727 → IsWide n
number_stands n v e h = let less : IsWide (pos v) = omega (arith, h) in subst IsWide (sym e) less

kind_stands : (s : TokenKind) (text behind : List ℕ) → AreBytes text → IsForm (is.Token s) text behind → LiteralStands (kind_of s text) (content_of s text) (value_of s)
unfolding LiteralStands
kind_stands kind.Word text behind h form = plain_stands (kind_of kind.Word text)
kind_stands kind.Name text behind h form = tt
kind_stands (kind.Number n) text behind h form = number_stands n _ form.1 form.0.3
kind_stands kind.Str text behind h form = string_stands text behind h form
kind_stands kind.Sign text behind h form = plain_stands (kind_of kind.Sign text)

-- ---- all tokens of a source

token_stands : (source z : List ℕ) (at len : ℕ) (s : TokenKind) → AreBytes source → z ≡ drop at source → IsForm (is.Token s) (take len z) (drop len z) → AllStand (plain_token source (record { kind = s; from = at; to = at + len; line = line_at source at }) ∷ [])
unfolding plain_token
token_stands source z at len s h e form =
    let length_is : at + len - at ≡ len = omega arith in
    let text : take len z ≡ token_text source (record { kind = s; from = at; to = at + len; line = line_at source at }) = rw (length_is, e) refl in
    let bytes : AreBytes (take len z) = all_take (λ b. b < 256) len z (subst AreBytes (sym e) (all_drop (λ b. b < 256) at source h)) in
    (subst (λ t. LiteralStands (kind_of s t) (content_of s t) (value_of s)) text (kind_stands s (take len z) (drop len z) bytes form), tt)

piece_stands : (source z : List ℕ) (at len : ℕ) (p : PieceKind) (others : List Lexeme) → AreBytes source → z ≡ drop at source → IsForm p (take len z) (drop len z) → AllStand (map (plain_token source) others) → AllStand (map (plain_token source) (token_of source at len p others))
piece_stands source z at len is.Blank others h e form later = later
piece_stands source z at len is.Comment others h e form later = later
piece_stands source z at len (is.Token s) others h e form later = ((token_stands source z at len s h e form).0, later)

pieces_stand : (source z : List ℕ) (at : ℕ) (ps : List Piece) → AreBytes source → z ≡ drop at source → CutsInto z ps [] → AllStand (map (plain_token source) (tokens_of source at ps))
pieces_stand source z at [] h e c = tt
pieces_stand source z at (p ∷ ps) h e c = piece_stands source z at p.len p.kind (tokens_of source (at + p.len) ps) h e c.1.begins.1
    (pieces_stand source (drop p.len z) (at + p.len) ps h (ap (drop p.len) e ∙ drop-drop p.len at source) c.2)

pub tokens_stand : (source : List ℕ) (tokens : List Lexeme) → AreBytes source → Spelled source tokens → AllStand (plain_tokens (record { source = source; tokens = tokens }))
tokens_stand source tokens h s = subst (λ ts. AllStand (map (plain_token source) ts)) s.among (pieces_stand source source 0 s.pieces h refl s.all)
