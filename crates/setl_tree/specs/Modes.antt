-- The grammar of `repr` sections. In each language `room` is how many nestings may still open there, and `deep` has the
-- modes that stand one nesting deeper.
use Rattle.std.specs.Prelude.{ℕ, zero, suc, List, Option, Some, None}
use Rattle.setl_tree.specs.declared.kind.Kind.{Kind}
use Rattle.setl_tree.specs.declared.kind.Kind.TheVariants as k
use Rattle.setl_tree.specs.declared.mode.Attribute.{Attribute}
use Rattle.setl_tree.specs.declared.mode.Attribute.TheVariants as at
use Rattle.setl_tree.specs.declared.mode.Core.{Core}
use Rattle.setl_tree.specs.declared.mode.Core.TheVariants as co
use Rattle.setl_tree.specs.declared.mode.WrittenMode.{WrittenMode, roll-WrittenMode}
use Rattle.setl_tree.specs.declared.mode.ReprLine.{ReprLine}
use Rattle.setl_tree.specs.declared.mode.ReprLine.TheVariants as rl
use Rattle.setl_tree.specs.declared.tree.Declared.{Declared}
use Rattle.setl_tree.specs.Lang.{Lang, pure, ◌>>=◌, ◌>>◌, ◌∣◌, never, token, one_of, opening, many, optional, separated, lined, name}
use Rattle.setl_tree.specs.Statements.{ending}

unfoldable pub attribute : Kind → Option Attribute
attribute k.Local = Some at.Local
attribute k.Remote = Some at.Remote
attribute k.Sparse = Some at.Sparse
attribute _ = None

-- the modes of one word
unfoldable pub simple_core : Kind → Option Core
simple_core k.General = Some co.General
simple_core k.Int = Some co.Int
simple_core k.Integer = Some co.Int
simple_core k.String = Some co.Str
simple_core k.Boolean = Some co.Boolean
simple_core k.Atom = Some co.Atom
simple_core _ = None

-- a name in a declaration
unfoldable pub declared : Lang Declared
declared = do t ← token k.Name; pure (record { line = t.line; name = t.text })

module _ (room : ℕ) (deep : Lang WrittenMode) where
  -- core = "general" | "int" | .. | "elmt" name | "set" "(" mode ")" | "tuple" "(" mode ")"
  --      | "smap" "(" mode ")" mode | "mmap" "{" mode "}" mode
  unfoldable pub core : Lang Core
  core =
      one_of simple_core
      ∣ (do t ← token k.Elmt; b ← name; pure (co.Elmt t.line b))
      ∣ (do token k.Set; opening room k.LeftParen; m ← deep; token k.RightParen; pure (co.Set m))
      ∣ (do token k.Tuple; opening room k.LeftParen; m ← deep; token k.RightParen; pure (co.Tuple m))
      ∣ (do token k.Smap; opening room k.LeftParen; d ← deep; token k.RightParen; r ← deep; pure (co.Smap d r))
      ∣ (do token k.Mmap; opening room k.LeftBrace; d ← deep; token k.RightBrace; r ← deep; pure (co.Mmap d r))

  -- [ "local" | "remote" | "sparse" ] core
  unfoldable pub with_attribute : Lang (Option Attribute × Core)
  with_attribute = do a ← optional (one_of attribute); c ← core; pure (a, c)

  -- mode = [ "local" | "remote" | "sparse" ] core
  unfoldable pub mode_in : Lang WrittenMode
  mode_in = do m ← lined with_attribute; pure (roll-WrittenMode (record { line = m.0; attribute = m.1.0; core = m.1.1 }))

-- the modes that stand one nesting deeper than where so many nestings may still open
unfoldable pub nested_mode : ℕ → Lang WrittenMode
nested_mode zero = never
nested_mode (suc room) = mode_in room (nested_mode room)

unfoldable pub mode : ℕ → Lang WrittenMode
mode room = mode_in room (nested_mode room)

-- rline = "base" name { "," name } [ ":" mode ] ";" | name { "," name } ":" mode ";"
unfoldable pub repr_line : ℕ → Lang ReprLine
repr_line room =
    (do t ← token k.Base; xs ← separated declared; m ← optional (token k.Colon >> mode room); token k.Semicolon; pure (rl.Base t.line xs m))
    ∣ (do xs ← lined (separated declared); token k.Colon; m ← mode room; token k.Semicolon; pure (rl.Variables xs.0 xs.1 m))

-- repr = "repr" { rline } "end" [ "repr" ] ";"
unfoldable pub repr : ℕ → Lang (List ReprLine)
repr room = do token k.Repr; lines ← many (repr_line room); ending k.Repr; pure lines
