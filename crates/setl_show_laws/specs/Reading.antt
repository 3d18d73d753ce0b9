-- What a token of a source reads as, whatever its line.
use Rattle.std.specs.Prelude.{◌≡◌, ◌≤◌, ℕ, ℤ, pos, IsTrue, List, [], ◌∷◌, Contains}
use Rattle.std.specs.List.{list_all}
use Rattle.setl_tree.specs.declared.kind.Kind.{Kind}
use Rattle.setl_tree.specs.declared.kind.Kind.TheVariants as k
use Rattle.setl_tree.specs.Tokens.{Tokens}
use Rattle.setl_token.specs.declared.Token.{Token as Lexeme}
use Rattle.setl_token.specs.declared.TokenKind.{TokenKind}
use Rattle.setl_token.specs.declared.TokenKind.TheVariants as is
use Rattle.setl_token.specs.Bytes.{lower, is_in_line, limit}
use Rattle.setl_token.specs.Form.{IsWordText}
use Rattle.setl_token.specs.Spellings.{listed}
use Rattle.setl_token.specs.Lex.{Spelled}
use Rattle.setl_token.specs.Text.{token_text}
use Rattle.setl_token.specs.Spellings.{spelling, IsSpelled}
use Rattle.setl_show.specs.Text.{quoted}

-- a token of this sort with these bytes reads as a token of this kind, text and value
abbrev pub Reads : TokenKind → List ℕ → Kind → List ℕ → ℤ → Type 0
Reads is.Word bytes kind text value = IsSpelled kind × (lower bytes ≡ spelling kind) × (text ≡ []) × (value ≡ pos 0)
Reads is.Name bytes kind text value = (kind ≡ k.Name) × (text ≡ lower bytes) × (value ≡ pos 0)
Reads (is.Number n) bytes kind text value = (kind ≡ k.Number) × (text ≡ []) × (value ≡ n)
Reads is.Str bytes kind text value = (kind ≡ k.StringLiteral) × (bytes ≡ quoted text) × (value ≡ pos 0)
Reads is.Sign bytes kind text value = IsSpelled kind × (bytes ≡ spelling kind) × (text ≡ []) × (value ≡ pos 0)

-- the tokens of a source read as these, one by one
abbrev pub AreRead : List ℕ → List Lexeme → Tokens → Type 0
AreRead source [] [] = Unit {0}
AreRead source [] (t ∷ toks) = ⊥
AreRead source (l ∷ others) [] = ⊥
AreRead source (l ∷ others) (t ∷ toks) = Reads l.kind (token_text source l) t.kind t.text t.value × AreRead source others toks

-- A source is spelled of tokens that read as these.
pub record IsSpelledAs (source : List ℕ) (toks : Tokens) : Type 0 where
  pub lexemes : List Lexeme
  pub spelled : Spelled source lexemes
  pub read : AreRead source lexemes toks

-- a name in lower case that is no reserved word
pub record IsNameText (text : List ℕ) : Type 0 where
  pub form : IsWordText text
  pub free : Contains listed text → ⊥
  pub low : lower text ≡ text

-- a number that a source can spell
pub record IsNumberValue (value : ℤ) : Type 0 where
  pub size : ℕ
  pub within : size ≤ limit
  pub is : value ≡ pos size

-- a token of this kind, text and value that some bytes read as
unfoldable pub IsLegal : Kind → List ℕ → ℤ → Type 0
IsLegal k.SourceEnd text value = ⊥
IsLegal k.Name text value = IsNameText text × (value ≡ pos 0)
IsLegal k.Number text value = (text ≡ []) × IsNumberValue value
IsLegal k.StringLiteral text value = IsTrue (list_all is_in_line text) × (value ≡ pos 0)
IsLegal _ text value = (text ≡ []) × (value ≡ pos 0)

abbrev pub AllLegal : Tokens → Type 0
AllLegal [] = Unit {0}
AllLegal (t ∷ toks) = IsLegal t.kind t.text t.value × AllLegal toks

-- tokens that some bytes read as
pub record AreLegal (toks : Tokens) : Type 0 where
  pub all : AllLegal toks
