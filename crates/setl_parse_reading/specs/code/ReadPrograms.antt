-- Reading programs. In each reader `room` is how many nestings may still open there.
use Rattle.std.specs.Prelude.{ℕ, Bool, true, false, if◌then◌else◌, List, [], Option, unwrap_or}
use Rattle.setl_tree.specs.declared.kind.Kind.{Kind}
use Rattle.setl_tree.specs.declared.kind.Kind.TheVariants as k
use Rattle.setl_tree.specs.declared.tree.Declared.{Declared}
use Rattle.setl_tree.specs.declared.tree.Param.{Param}
use Rattle.setl_tree.specs.declared.tree.Passing.{Passing}
use Rattle.setl_tree.specs.declared.tree.Passing.TheVariants as pa
use Rattle.setl_tree.specs.declared.tree.Proc.{Proc}
use Rattle.setl_tree.specs.declared.tree.Tree.{Tree}
use Rattle.setl_tree.specs.Tokens.{Token}
use Rattle.setl_tree.specs.Programs.{passing, joined, name_behind}
use Rattle.setl_parse_reading.specs.code.Reading.{Reader, ◌>>=◌, ◌>>◌, pure, peek, expect, opening, one_of, is, begins_as, many, optional, separated, listed, lined, name}
use Rattle.setl_parse_reading.specs.code.ReadStatements.{stmts}
use Rattle.setl_parse_reading.specs.code.ReadModes.{declared, repr}

-- behind the word of a declaration's end: its name, if one stands there
unfoldable pub optional_name : Reader (Option (List ℕ))
optional_name = optional (is k.Name) name

-- "end" [ word [ name ] ] ";", with the line of the "end"
unfoldable pub named_ending : (Kind → Bool) → Reader Token → Reader (ℕ × Option (List ℕ))
named_ending is_word word = do
  t ← expect k.End
  x ← optional is_word (word >> optional_name)
  expect k.Semicolon
  pure (t.line, name_behind x)

unfoldable pub var : Reader (List Declared)
var = do expect k.Var; xs ← separated declared; expect k.Semicolon; pure xs

unfoldable pub vars : Reader (List (List Declared))
vars = many (is k.Var) var

unfoldable pub passed : Reader (Passing × List ℕ)
passed = do p ← optional (begins_as passing) (one_of passing); x ← name; pure (unwrap_or p pa.Rd, x)

unfoldable pub param : Reader Param
param = do p ← lined passed; pure (record { passing = p.1.0; name = p.1.1; line = p.0 })

unfoldable pub params : ℕ → Reader (List Param)
params room = do opening room k.LeftParen; xs ← listed k.RightParen param; expect k.RightParen; pure xs

unfoldable pub begins_proc : Kind → Bool
begins_proc k.Proc = true
begins_proc k.Procedure = true
begins_proc _ = false

unfoldable pub proc_word : Reader Token
proc_word = do
  kind ← peek
  if is k.Proc kind then expect k.Proc else expect k.Procedure

unfoldable pub proc : ℕ → Reader Proc
proc room = do
  t ← proc_word
  x ← name
  ps ← optional (is k.LeftParen) (params room)
  expect k.Semicolon
  body ← stmts room
  last ← named_ending begins_proc proc_word
  pure (record { line = t.line; name = x; params = unwrap_or ps []; body = body; end_name = last.1; end_line = last.0 })

unfoldable pub procs : ℕ → Reader (List Proc)
procs room = many begins_proc (proc room)

unfoldable pub program_end : Reader (ℕ × Option (List ℕ))
program_end = named_ending (is k.Program) (expect k.Program)

unfoldable pub program : ℕ → Reader Tree
program room = do
  expect k.Program
  x ← name
  expect k.Semicolon
  vs ← vars
  modes ← optional (is k.Repr) (repr room)
  body ← stmts room
  ps ← procs room
  last ← program_end
  pure (record { name = x; vars = joined vs; modes = unwrap_or modes []; body = body; procs = ps; end_name = last.1; end_line = last.0 })
