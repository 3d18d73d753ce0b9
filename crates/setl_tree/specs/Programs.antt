-- The grammar of programs. In each language `room` is how many nestings may still open there.
use Rattle.std.specs.Prelude.{ℕ, List, [], ◌∷◌, ◌++◌, Option, Some, None, unwrap_or}
use Rattle.setl_tree.specs.declared.kind.Kind.{Kind}
use Rattle.setl_tree.specs.declared.kind.Kind.TheVariants as k
use Rattle.setl_tree.specs.declared.tree.Declared.{Declared}
use Rattle.setl_tree.specs.declared.tree.Param.{Param}
use Rattle.setl_tree.specs.declared.tree.Passing.{Passing}
use Rattle.setl_tree.specs.declared.tree.Passing.TheVariants as pa
use Rattle.setl_tree.specs.declared.tree.Proc.{Proc}
use Rattle.setl_tree.specs.declared.tree.Tree.{Tree}
use Rattle.setl_tree.specs.Tokens.{Token, Tokens}
use Rattle.setl_tree.specs.Lang.{Lang, pure, ◌>>=◌, ◌>>◌, ◌∣◌, token, one_of, opening, many, optional, separated, listed, lined, name}
use Rattle.setl_tree.specs.Statements.{stmts}
use Rattle.setl_tree.specs.Modes.{declared, repr}

unfoldable pub passing : Kind → Option Passing
passing k.Rd = Some pa.Rd
passing k.Wr = Some pa.Wr
passing k.Rw = Some pa.Rw
passing _ = None

-- all lists, one behind the other
abbrev pub joined : {A : Type 0} → List (List A) → List A
joined [] = []
joined (xs ∷ others) = xs ++ joined others

abbrev pub name_behind : Option (Option (List ℕ)) → Option (List ℕ)
name_behind None = None
name_behind (Some x) = x

-- "end" [ word [ name ] ] ";", with the line of the "end"
unfoldable pub named_ending : Lang Token → Lang (ℕ × Option (List ℕ))
named_ending word = do t ← token k.End; x ← optional (word >> optional name); token k.Semicolon; pure (t.line, name_behind x)

-- var = "var" name { "," name } ";"
unfoldable pub var : Lang (List Declared)
var = do token k.Var; xs ← separated declared; token k.Semicolon; pure xs

-- [ "rd" | "wr" | "rw" ] name
unfoldable pub passed : Lang (Passing × List ℕ)
passed = do p ← optional (one_of passing); x ← name; pure (unwrap_or p pa.Rd, x)

-- param = [ "rd" | "wr" | "rw" ] name
unfoldable pub param : Lang Param
param = do p ← lined passed; pure (record { passing = p.1.0; name = p.1.1; line = p.0 })

-- "(" [ param { "," param } ] ")"
unfoldable pub params : ℕ → Lang (List Param)
params room = do opening room k.LeftParen; xs ← listed param; token k.RightParen; pure xs

-- "proc" | "procedure"
unfoldable pub proc_word : Lang Token
proc_word = token k.Proc ∣ token k.Procedure

-- proc = ("proc" | "procedure") name [ "(" [ param { "," param } ] ")" ] ";" { stmt } "end" [ ("proc" | "procedure") [ name ] ] ";"
unfoldable pub proc : ℕ → Lang Proc
proc room = do
  t ← proc_word
  x ← name
  ps ← optional (params room)
  token k.Semicolon
  body ← stmts room
  last ← named_ending proc_word
  pure (record { line = t.line; name = x; params = unwrap_or ps []; body = body; end_name = last.1; end_line = last.0 })

-- program = "program" name ";" { var } [ repr ] { stmt } { proc } "end" [ "program" [ name ] ] ";"
unfoldable pub program : ℕ → Lang Tree
program room = do
  token k.Program
  x ← name
  token k.Semicolon
  vars ← many var
  modes ← optional (repr room)
  body ← stmts room
  procs ← many (proc room)
  last ← named_ending (token k.Program)
  pure (record { name = x; vars = joined vars; modes = unwrap_or modes []; body = body; procs = procs; end_name = last.1; end_line = last.0 })

-- The tokens spell this program, whatever the number of nestings inside one another.
abbrev pub Derives : Tokens → Tree → Type 0
Derives toks tree = (room : ℕ) × program room toks tree
