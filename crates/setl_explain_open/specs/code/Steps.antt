-- One step of the walk over the tokens before a place.
use Rattle.std.specs.Prelude.{◌≡◌, ℕ, slice_get, Some}
use Rattle.setl_token.specs.Text.{Lexed}
use Rattle.setl_token.specs.declared.Token.{Token}
use Rattle.setl_explain_open.specs.Opens.{Reached, behind_before}

-- the token with this index leads from the one to the other
abbrev pub IsStep : Lexed → ℕ → ℕ → Reached → Reached → Type 0
IsStep l at i r next = (t : Token) → slice_get l.tokens i ≡ Some t → next ≡ behind_before l.source at r t
