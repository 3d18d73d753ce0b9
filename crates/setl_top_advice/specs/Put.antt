-- A source in which a section stands.
use Rattle.std.specs.Prelude.{◌≡◌, ◌≤◌, ◌^◌, ◌+◌, ◌⊎◌, ℕ, List, ◌++◌, length, take, drop, slice_get, Some, None, codes}
use Rattle.std.specs.Option.{IsSomeAnd}
use Rattle.setl_token.specs.Lex.{Spelled}
use Rattle.setl_token.specs.Text.{IsWord, IsSign}
use Rattle.setl_token.specs.declared.Token.{Token}
use Rattle.setl_tree.specs.Programs as grammar
use Rattle.setl_tree.specs.declared.tree.Tree.{Tree}
use Rattle.setl_parse_cursor.specs.Plain.{plain_tokens}
use Rattle.setl_names.specs.Breaks.{first_break}
use Rattle.setl_program.specs.ProgramOf.{program_of}
use Rattle.setl_advise_checked.specs.Checked.{RunsFit}
use Rattle.setl_top_rules.specs.Rules.{all_breaks}

-- the tokens from one index to another are an empty section, `repr end;` or `repr end repr;`
pub record IsEmptySection (source : List ℕ) (ts : List Token) (first last : ℕ) : Type 0 where
  pub opens : IsSomeAnd (slice_get ts first) (λ t. IsWord source t (codes "repr"))
  pub ends : IsSomeAnd (slice_get ts (first + 1)) (λ t. IsWord source t (codes "end"))
  pub short_or_long : (last ≡ first + 2) ⊎ ((last ≡ first + 3) × IsSomeAnd (slice_get ts (first + 2)) (λ t. IsWord source t (codes "repr")))
  pub closes : IsSomeAnd (slice_get ts last) (λ t. IsSign source t (codes ";"))

-- a section is put between two bytes, or in place of an empty one
pub data IsPlace (source : List ℕ) (ts : List Token) : (from to : ℕ) → Type 0 where
  between : (at : ℕ) → IsPlace source ts at at
  in_place : (first last : ℕ) (t u : Token) → IsEmptySection source ts first last → slice_get ts first ≡ Some t → slice_get ts last ≡ Some u → IsPlace source ts t.from u.to

-- the source with a text in place of the bytes from one place to another
abbrev pub with_section : (source text : List ℕ) → (from to : ℕ) → List ℕ
with_section source text from to = take from source ++ text ++ drop to source

-- the source is accepted, and no run of it in which its declarations count ends for a value that doesn't fit
pub record IsFitting (source : List ℕ) : Type 0 where
  pub short : length source ≤ 2 ^ 24
  pub tokens : List Token
  pub spelled : Spelled source tokens
  pub tree : Tree
  pub derived : grammar.program 200 (plain_tokens (record { source = source; tokens = tokens })) tree
  pub sound : first_break (all_breaks tree) ≡ None
  pub fits : RunsFit (program_of tree)
