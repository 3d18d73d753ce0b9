-- The tokens of a source as plain data are what its bytes read as.
use Rattle.std.proofs.Common.{◌≡◌, ℕ, Bool, true, false, ◌&&◌, List, [], ◌∷◌, drop, map, Contains, refl, sym, ap, ◌∙◌}
use Rattle.std.proofs.lemmas.Bool.{and_parts}
use Rattle.std.proofs.lemmas.List.Elements.{All-contains}
use Rattle.std.proofs.lemmas.List.Sums.{AllPass-from_list_all}
use Rattle.std.proofs.lemmas.Slice.Eq.{bytes_eq-Decides}
use Rattle.std.specs.List.{list_all}
use Rattle.std.specs.Str.{bytes_eq}
use Rattle.setl_tree.specs.declared.kind.Kind.{Kind}
use Rattle.setl_tree.specs.declared.kind.Kind.TheVariants as k
use Rattle.setl_token.specs.declared.Token.{Token as Lexeme}
use Rattle.setl_token.specs.declared.TokenKind.{TokenKind}
use Rattle.setl_token.specs.declared.TokenKind.TheVariants as kind
use Rattle.setl_token.specs.declared.pieces.PieceKind.TheVariants as is
use Rattle.setl_token.specs.Bytes.{lower}
use Rattle.setl_token.specs.Form.{IsForm, IsStringText}
use Rattle.setl_token.specs.Lex.{Spelled}
use Rattle.setl_token.specs.Text.{Lexed, token_text}
use Rattle.setl_token.specs.Spellings.{spellings, spelling, IsSpelled, listed, signs, kind_in}
use Rattle.setl_show.specs.Text.{quoted}
use Rattle.setl_parse_cursor.specs.Plain.{kind_of, content_of, value_of, plain_token, plain_tokens}
use Rattle.setl_show_laws.specs.Reading.{Reads, AreRead, IsSpelledAs}
use Rattle.setl_show_laws.proofs.Formed.{AllFormed, all_formed}

-- ---- reserved words and signs

abbrev is_spelled : Kind → Bool
is_spelled k.SourceEnd = false
is_spelled k.Name = false
is_spelled k.Number = false
is_spelled k.StringLiteral = false
is_spelled _ = true

spelled_kind : (kind : Kind) → is_spelled kind ≡ true → IsSpelled kind
spelled_kind k.SourceEnd e = absurd (cc)
spelled_kind k.Name e = absurd (cc)
spelled_kind k.Number e = absurd (cc)
spelled_kind k.StringLiteral e = absurd (cc)
spelled_kind _ e = tt

-- the text is listed with the kind that is spelled so
abbrev is_listed : List ℕ → Bool
is_listed text = is_spelled (kind_in spellings text) && bytes_eq text (spelling (kind_in spellings text))

all_listed : list_all is_listed listed ≡ true
unfolding listed spellings spelling
all_listed = refl

-- the sign has no letters, and is listed
abbrev is_listed_sign : List ℕ → Bool
is_listed_sign text = bytes_eq (lower text) text && is_listed (lower text)

signs_listed : list_all is_listed_sign signs ≡ true
unfolding listed signs spellings spelling
signs_listed = refl

passes : (test : List ℕ → Bool) (texts : List (List ℕ)) (text : List ℕ) → list_all test texts ≡ true → Contains texts text → test text ≡ true
passes test texts text e c = All-contains (λ (x : List ℕ). test x ≡ true) texts text (AllPass-from_list_all test texts e) c

same_bytes : (x y : List ℕ) → bytes_eq x y ≡ true → x ≡ y
same_bytes x y e = (bytes_eq-Decides x y).0 e

listed_is : (text : List ℕ) → is_listed text ≡ true → IsSpelled (kind_in spellings text) × (text ≡ spelling (kind_in spellings text))
listed_is text e =
    let kind = kind_in spellings text in
    let parts = and_parts (is_spelled kind) (bytes_eq text (spelling kind)) e in
    (spelled_kind kind parts.0, same_bytes text (spelling kind) parts.1)

sign_is : (text : List ℕ) → is_listed_sign text ≡ true → IsSpelled (kind_in spellings (lower text)) × (text ≡ spelling (kind_in spellings (lower text)))
sign_is text e =
    let parts = and_parts (bytes_eq (lower text) text) (is_listed (lower text)) e in
    let is = listed_is (lower text) parts.1 in
    (is.0, sym (same_bytes (lower text) text parts.0) ∙ is.1)

-- ---- one token

-- a string token holds the bytes that it spells, each apostrophe once
abbrev pub StringsHold : Type 0
StringsHold = (text behind : List ℕ) (s : IsStringText text behind) → content_of kind.Str text ≡ s.body

reads : StringsHold → (s : TokenKind) (bytes back : List ℕ) → IsForm (is.Token s) bytes back → Reads s bytes (kind_of s bytes) (content_of s bytes) (value_of s)
reads hold kind.Word bytes back form = let it = listed_is (lower bytes) (passes is_listed listed (lower bytes) all_listed form.1) in (it.0, it.1, refl, refl)
reads hold kind.Sign bytes back form = let it = sign_is bytes (passes is_listed_sign signs bytes signs_listed form) in (it.0, it.1, refl, refl)
reads hold kind.Name bytes back form = (refl, refl, refl)
reads hold (kind.Number n) bytes back form = (refl, refl, refl)
reads hold kind.Str bytes back form = (refl, form.text_is ∙ ap quoted (sym (hold bytes back form)), refl)

-- ---- all tokens

are_read : StringsHold → (source : List ℕ) (ls : List Lexeme) → AllFormed source ls → AreRead source ls (map (plain_token source) ls)
unfolding plain_token
are_read hold source [] form = tt
are_read hold source (l ∷ ls) form = (reads hold l.kind (token_text source l) (drop l.to source) form.0.form, are_read hold source ls form.1)

pub source_spelled : StringsHold → (l : Lexed) → Spelled l.source l.tokens → IsSpelledAs l.source (plain_tokens l)
source_spelled hold l s = record { lexemes = l.tokens; spelled = s; read = are_read hold l.source l.tokens (all_formed l.source l.tokens s) }
