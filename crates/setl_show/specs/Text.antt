-- The bytes of tokens.
use Rattle.std.specs.Prelude.{ℕ, ℤ, List, [], ◌∷◌, ◌++◌, fold}
use Rattle.std.specs.Fmt.{signed_decimal}
use Rattle.setl_tree.specs.declared.kind.Kind.{Kind}
use Rattle.setl_tree.specs.declared.kind.Kind.TheVariants as k
use Rattle.setl_tree.specs.Tokens.{Token, Tokens}
use Rattle.setl_token.specs.Form.{doubled}
use Rattle.setl_token.specs.Spellings.{spelling}

-- between apostrophes, with each apostrophe doubled
abbrev pub quoted : List ℕ → List ℕ
quoted text = 39 ∷ (doubled text ++ 39 ∷ [])

-- the bytes of a token of this kind, with the text that it holds and its value
unfoldable pub bytes_of : Kind → List ℕ → ℤ → List ℕ
bytes_of k.Name text value = text
bytes_of k.Number text value = signed_decimal value
bytes_of k.StringLiteral text value = quoted text
bytes_of kind text value = spelling kind

-- what stands behind a token: a line feed behind a semicolon, a blank behind any other
unfoldable pub behind : Kind → ℕ
behind k.Semicolon = 10
behind _ = 32

-- The text of tokens: each with what stands behind it. A program ends in a semicolon, so no blank stands at its end.
abbrev pub text_of : Tokens → List ℕ
text_of [] = []
text_of (t ∷ toks) = bytes_of t.kind t.text t.value ++ behind t.kind ∷ text_of toks

-- bytes with one more token at the end
unfoldable pub put : List ℕ → Kind → List ℕ → ℤ → List ℕ
put bytes kind text value = bytes ++ (bytes_of kind text value ++ behind kind ∷ [])

abbrev pub with_token : List ℕ → Token → List ℕ
with_token bytes t = put bytes t.kind t.text t.value

-- bytes with tokens at the end
abbrev pub with_tokens : List ℕ → Tokens → List ℕ
with_tokens bytes toks = fold with_token bytes toks
