-- The names that a source spells, and the first name of a base that is none of them.
use Rattle.std.specs.Prelude.{◌≡◌, ◌<◌, ◌≤◌, ℕ, true, false, List, [], ◌∷◌, ◌++◌}
use Rattle.setl_token.specs.Bytes.{lower}
use Rattle.setl_token.specs.Text.{token_text}
use Rattle.setl_token.specs.declared.Token.{Token}
use Rattle.setl_token.specs.declared.TokenKind.{TokenKind}
use Rattle.setl_token.specs.declared.TokenKind.TheVariants as is
use Rattle.setl_names.specs.Names.{Name, has}
use Rattle.setl_advise_section.specs.Text.{base_name}

-- the name that a token of this kind spells, if it is one
abbrev pub if_name : TokenKind → Name → List Name
if_name is.Word x = []
if_name is.Name x = x ∷ []
if_name (is.Number n) x = []
if_name is.Str x = []
if_name is.Sign x = []

-- the name that a token spells, in lower case
abbrev pub name_in : List ℕ → Token → List Name
name_in source t = if_name t.kind (lower (token_text source t))

-- the names that the tokens of a source spell, in lower case
abbrev pub spelled_names : List ℕ → List Token → List Name
spelled_names source [] = []
spelled_names source (t ∷ ts) = name_in source t ++ spelled_names source ts

-- of the numbers from `from` on this is the first whose base has a name that isn't among these
pub record IsFirstFree (names : List Name) (from number : ℕ) : Type 0 where
  pub from_there : from ≤ number
  pub free : has names (base_name number) ≡ false
  pub first : (n : ℕ) → from ≤ n → n < number → has names (base_name n) ≡ true
