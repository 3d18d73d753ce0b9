-- Tokens as plain data.
use Rattle.std.specs.Prelude.{ℕ, ℤ, List}
use Rattle.setl_tree.specs.declared.kind.Kind.{Kind}

-- A token: its kind, the bytes of a name in lower case or of what a string holds, the value of a number, and its line.
pub record Token : Type 0 where
  pub kind : Kind
  pub text : List ℕ
  pub value : ℤ
  pub line : ℕ

abbrev pub Tokens : Type 0
Tokens = List Token
