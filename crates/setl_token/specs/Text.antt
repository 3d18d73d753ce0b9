-- A source with its tokens, and what a token reads as.
use Rattle.std.specs.Prelude.{◌≡◌, ℕ, List, slice_range, ◌≤◌, ◌^◌, length, drop}
use Rattle.setl_token.specs.declared.Token.{Token}
use Rattle.setl_token.specs.declared.TokenKind.TheVariants as kind
use Rattle.setl_token.specs.declared.pieces.PieceKind.TheVariants as is
use Rattle.setl_token.specs.Bytes.{lower}
use Rattle.setl_token.specs.Form.{IsForm}
use Rattle.setl_token.specs.Lex.{Spelled}

-- a source and the list of its tokens
pub record Lexed : Type 0 where
  pub source : List ℕ
  pub tokens : List Token

-- the tokens are those of the source, which is short enough
pub record IsLexed (source : List ℕ) (tokens : List Token) : Type 0 where
  pub spelled : Spelled source tokens
  pub short : length source ≤ 2 ^ 24

-- the bytes of a token
abbrev pub token_text : List ℕ → Token → List ℕ
token_text source t = slice_range source t.from t.to

-- the bytes of a token are of the form of its kind, by what stands behind them
pub record IsFormed (source : List ℕ) (t : Token) : Type 0 where
  pub form : IsForm (is.Token t.kind) (token_text source t) (drop t.to source)

-- the token is this reserved word, whatever its letters' case
abbrev pub IsWord : List ℕ → Token → List ℕ → Type 0
IsWord source t word = (t.kind ≡ kind.Word) × (lower (token_text source t) ≡ word)

-- the token is this sign
abbrev pub IsSign : List ℕ → Token → List ℕ → Type 0
IsSign source t sign = (t.kind ≡ kind.Sign) × (token_text source t ≡ sign)
