-- The advice for a source without declarations, and the refusal of one that has some.
use Rattle.std.specs.Prelude.{◌≡◌, ◌≤◌, ◌^◌, ℕ, length, List, [], ◌++◌, slice_get, Option, Some, option_map, codes, decimal}
use Rattle.setl_token.specs.Lex.{Spelled}
use Rattle.setl_token.specs.declared.Token.{Token}
use Rattle.setl_tree.specs.declared.mode.ReprLine.{ReprLine}
use Rattle.setl_tree.specs.declared.mode.ReprLine.TheVariants as section
use Rattle.setl_tree.specs.declared.tree.Tree.{Tree}
use Rattle.setl_names.specs.Names.{in_order}
use Rattle.setl_advise_names.specs.Free.{spelled_names}
use Rattle.setl_advise.specs.Advice.{IsAdvice}
use Rattle.setl_top_advice.specs.Put.{IsPlace, IsFitting, with_section}

-- The tree has no declarations, and the text is the advice for it, over bases whose names the source doesn't spell. With the
-- text in its place the source is accepted, where it has at most 2^24 bytes, and no run of it ends for a value that doesn't
-- fit.
pub record IsAdvised (source : List ℕ) (tree : Tree) (text : List ℕ) : Type 0 where
  pub bare : tree.modes ≡ []
  pub tokens : List Token
  pub spelled : Spelled source tokens
  pub is_advice : IsAdvice (in_order (spelled_names source tokens)) tree text
  pub from : ℕ
  pub to : ℕ
  pub place : IsPlace source tokens from to
  pub fits : length (with_section source text from to) ≤ 2 ^ 24 → IsFitting (with_section source text from to)

-- the line of the source on which a line of a section begins
abbrev pub line_of : ReprLine → ℕ
line_of (section.Base line ds m) = line
line_of (section.Variables line ds m) = line

-- that of a section's first line, where it has one
abbrev pub first_line : List ReprLine → Option ℕ
first_line ls = option_map line_of (slice_get ls 0)

abbrev pub has_repr_line : ℕ → List ℕ
has_repr_line at = codes "line " ++ decimal at ++ codes ": has repr"

-- the tree has declarations, and this line tells it
pub record HasRepr (tree : Tree) (line : List ℕ) : Type 0 where
  pub at : ℕ
  pub first : first_line tree.modes ≡ Some at
  pub tells : line ≡ has_repr_line at
