-- Reading `repr` sections. In each reader `room` is how many nestings may still open there, and `deep` reads the modes
-- that stand one nesting deeper.
use Rattle.std.specs.Prelude.{ℕ, zero, suc, Bool, true, false, if◌then◌else◌, List, Option}
use Rattle.setl_tree.specs.declared.kind.Kind.{Kind}
use Rattle.setl_tree.specs.declared.kind.Kind.TheVariants as k
use Rattle.setl_tree.specs.declared.mode.Attribute.{Attribute}
use Rattle.setl_tree.specs.declared.mode.Core.{Core}
use Rattle.setl_tree.specs.declared.mode.Core.TheVariants as co
use Rattle.setl_tree.specs.declared.mode.WrittenMode.{WrittenMode, roll-WrittenMode}
use Rattle.setl_tree.specs.declared.mode.ReprLine.{ReprLine}
use Rattle.setl_tree.specs.declared.mode.ReprLine.TheVariants as rl
use Rattle.setl_tree.specs.declared.tree.Declared.{Declared}
use Rattle.setl_tree.specs.Modes.{attribute, simple_core}
use Rattle.setl_parse_reading.specs.code.Reading.{Reader, ◌>>=◌, ◌>>◌, pure, refuse, peek, expect, opening, one_of, is, begins_as, many, optional, separated, lined, name}
use Rattle.setl_parse_reading.specs.code.ReadStatements.{ending}

-- a name in a declaration
unfoldable pub declared : Reader Declared
declared = do t ← expect k.Name; pure (record { line = t.line; name = t.text })

-- behind `elmt` comes a base
unfoldable pub element : Reader Core
element = do t ← expect k.Elmt; b ← name; pure (co.Elmt t.line b)

module _ (room : ℕ) (deep : Reader WrittenMode) where
  -- a mode in round brackets
  unfoldable pub round_mode : Reader WrittenMode
  round_mode = do opening room k.LeftParen; m ← deep; expect k.RightParen; pure m

  -- a mode in braces
  unfoldable pub braced_mode : Reader WrittenMode
  braced_mode = do opening room k.LeftBrace; m ← deep; expect k.RightBrace; pure m

  abbrev pub core_by : Kind → Reader Core
  core_by k.Elmt = element
  core_by k.Set = do expect k.Set; m ← round_mode; pure (co.Set m)
  core_by k.Tuple = do expect k.Tuple; m ← round_mode; pure (co.Tuple m)
  core_by k.Smap = do expect k.Smap; d ← round_mode; r ← deep; pure (co.Smap d r)
  core_by k.Mmap = do expect k.Mmap; d ← braced_mode; r ← deep; pure (co.Mmap d r)
  core_by _ = one_of simple_core

  unfoldable pub core : Reader Core
  core = peek >>= core_by

  unfoldable pub with_attribute : Reader (Option Attribute × Core)
  with_attribute = do a ← optional (begins_as attribute) (one_of attribute); c ← core; pure (a, c)

  unfoldable pub mode_in : Reader WrittenMode
  mode_in = do m ← lined with_attribute; pure (roll-WrittenMode (record { line = m.0; attribute = m.1.0; core = m.1.1 }))

-- the modes that stand one nesting deeper than where so many nestings may still open
unfoldable pub nested_mode : ℕ → Reader WrittenMode
nested_mode zero = refuse
nested_mode (suc room) = mode_in room (nested_mode room)

unfoldable pub mode : ℕ → Reader WrittenMode
mode room = mode_in room (nested_mode room)

-- `: mode`
unfoldable pub colon_mode : ℕ → Reader WrittenMode
colon_mode room = expect k.Colon >> mode room

unfoldable pub base_line : ℕ → Reader ReprLine
base_line room = do
  t ← expect k.Base
  xs ← separated declared
  m ← optional (is k.Colon) (colon_mode room)
  expect k.Semicolon
  pure (rl.Base t.line xs m)

unfoldable pub variables_line : ℕ → Reader ReprLine
variables_line room = do
  xs ← lined (separated declared)
  m ← colon_mode room
  expect k.Semicolon
  pure (rl.Variables xs.0 xs.1 m)

unfoldable pub repr_line : ℕ → Reader ReprLine
repr_line room = do
  kind ← peek
  if is k.Base kind then base_line room else variables_line room

unfoldable pub begins_line : Kind → Bool
begins_line k.Base = true
begins_line k.Name = true
begins_line _ = false

unfoldable pub repr : ℕ → Reader (List ReprLine)
repr room = do expect k.Repr; lines ← many begins_line (repr_line room); ending k.Repr; pure lines
