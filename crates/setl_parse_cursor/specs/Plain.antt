-- The tokens of a source as plain data, of which the grammar speaks.
use Rattle.std.specs.Prelude.{ℕ, ℤ, pos, ◌-◌, ◌==◌, if◌then◌else◌, List, [], ◌∷◌, length, take, drop, map}
use Rattle.setl_tree.specs.declared.kind.Kind.{Kind}
use Rattle.setl_tree.specs.declared.kind.Kind.TheVariants as k
use Rattle.setl_tree.specs.Tokens.{Token, Tokens}
use Rattle.setl_token.specs.declared.Token.{Token as Lexeme}
use Rattle.setl_token.specs.declared.TokenKind.{TokenKind}
use Rattle.setl_token.specs.declared.TokenKind.TheVariants as is
use Rattle.setl_token.specs.Bytes.{lower}
use Rattle.setl_token.specs.Text.{Lexed, token_text}
use Rattle.setl_token.specs.Spellings.{spellings, kind_in}

-- the kind of a token with this text
abbrev pub kind_of : TokenKind → List ℕ → Kind
kind_of is.Word text = kind_in spellings (lower text)
kind_of is.Name text = k.Name
kind_of (is.Number n) text = k.Number
kind_of is.Str text = k.StringLiteral
kind_of is.Sign text = kind_in spellings (lower text)

-- bytes with each doubled apostrophe made single
abbrev pub undoubled : List ℕ → List ℕ
undoubled [] = []
undoubled (b ∷ []) = b ∷ []
undoubled (b ∷ c ∷ body) = if b == 39 then b ∷ undoubled body else b ∷ undoubled (c ∷ body)

-- what stands between the first and the last byte
abbrev pub inside : List ℕ → List ℕ
inside text = take (length text - 2) (drop 1 text)

-- a name in lower case, or what a string holds
abbrev pub content_of : TokenKind → List ℕ → List ℕ
content_of is.Word text = []
content_of is.Name text = lower text
content_of (is.Number n) text = []
content_of is.Str text = undoubled (inside text)
content_of is.Sign text = []

abbrev pub value_of : TokenKind → ℤ
value_of is.Word = pos 0
value_of is.Name = pos 0
value_of (is.Number n) = n
value_of is.Str = pos 0
value_of is.Sign = pos 0

-- a token of a source
unfoldable pub plain_token : List ℕ → Lexeme → Token
plain_token source t = record {
  kind = kind_of t.kind (token_text source t);
  text = content_of t.kind (token_text source t);
  value = value_of t.kind;
  line = t.line;
}

-- the tokens of a source, in their order
abbrev pub plain_tokens : Lexed → Tokens
plain_tokens l = map (plain_token l.source) l.tokens

-- the next token, or one that stands for none
abbrev pub next_token : Tokens → Token
next_token [] = record { kind = k.SourceEnd; text = []; value = pos 0; line = 0 }
next_token (t ∷ others) = t
