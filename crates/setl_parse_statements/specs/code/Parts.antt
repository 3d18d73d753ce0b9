-- How statements, procedures and programs are read on behind their heads.
use Rattle.std.specs.Prelude.{ℕ, ◌-◌, Bool, List, ◌++◌, Option}
use Rattle.setl_tree.specs.declared.kind.Kind.{Kind}
use Rattle.setl_tree.specs.declared.kind.Kind.TheVariants as k
use Rattle.setl_tree.specs.declared.mode.ReprLine.{ReprLine}
use Rattle.setl_tree.specs.declared.stmt.Branch.{Branch, roll-Branch}
use Rattle.setl_tree.specs.declared.stmt.Stmt.{Stmt, roll-Stmt}
use Rattle.setl_tree.specs.declared.stmt.StmtKind.{StmtKind}
use Rattle.setl_tree.specs.declared.tree.Declared.{Declared}
use Rattle.setl_tree.specs.declared.tree.Param.{Param}
use Rattle.setl_tree.specs.declared.tree.Proc.{Proc}
use Rattle.setl_tree.specs.declared.tree.Tree.{Tree}
use Rattle.setl_tree.specs.declared.expr.Expr.{Expr}
use Rattle.setl_tree.specs.declared.expr.Iter.{Iter}
use Rattle.setl_tree.specs.declared.expr.Selector.{Selector}
use Rattle.setl_tree.specs.Tokens.{Token}
use Rattle.setl_tree.specs.Programs.{joined, name_behind}
use Rattle.setl_parse_reading.specs.code.Reading.{Reader, ◌>>=◌, ◌>>◌, pure, expect, opening, is, optional, name}
use Rattle.setl_parse_reading.specs.code.ReadExpressions.{nested, expr, iters, condition}
use Rattle.setl_parse_reading.specs.code.ReadStatements.{place_selectors, stmts, elseifs, else_part, ending}
use Rattle.setl_parse_reading.specs.code.ReadPrograms.{optional_name, named_ending, begins_proc, proc_word, vars, procs, program_end}

-- a statement with its line
abbrev pub stmt_of : ℕ → StmtKind → Stmt
stmt_of line kind = roll-Stmt (record { line = line; kind = kind })

-- a condition with the statements that it guards
abbrev pub branch_of : Expr → List Stmt → Branch
branch_of condition body = roll-Branch (record { condition = condition; body = body })

-- what was read, and the statements that it guards
abbrev pub guarding : {A : Type 0} → A → Reader (List Stmt) → Reader (A × List Stmt)
guarding head deep = do
  body ← deep
  pure (head, body)

-- the head of a loop, and its statements up to its end
abbrev pub looping : {A : Type 0} → A → Kind → Reader (List Stmt) → Reader (A × List Stmt)
looping head word deep = do
  body ← deep
  ending word
  pure (head, body)

-- what was read, behind which an end stands
abbrev pub ended : {A : Type 0} → A → Kind → Reader A
ended head word = ending word >> pure head

-- what was read, and behind `:=` a value up to `;`
abbrev pub valued : {A : Type 0} → A → ℕ → Reader (A × Expr)
valued head room = do expect k.Assign; x ← expr room; expect k.Semicolon; pure (head, x)

-- what was read, and beside it the selectors of a place, of which these were read
abbrev pub with_selectors : {A : Type 0} → A → ℕ → List Selector → Reader (A × List Selector)
with_selectors head room first = do ss ← place_selectors room; pure (head, first ++ ss)

-- a word, and in round brackets up to `;` what it is of
abbrev pub command : {A : Type 0} → Kind → ℕ → Reader A → Reader A
command word room part = do
  expect word
  opening room k.LeftParen
  a ← part
  expect k.RightParen
  expect k.Semicolon
  pure a

-- the iterators of a loop, and its condition, behind `(`
abbrev pub for_head : ℕ → Reader (List Iter × Option Expr)
for_head room = do
  expect k.For
  over ← iters (room - 1) (nested room).source
  c ← optional (is k.Bar) (condition room (nested room))
  expect k.RightParen
  pure (over, c)

-- the first branch of a conditional statement, and what stands behind it
abbrev pub branching : {A : Type 0} → A → ℕ → Reader (List Stmt) → Reader (A × List Branch × Option (List Stmt))
branching first room deep = do
  others ← elseifs room deep
  last ← else_part room deep
  ending k.If
  pure (first, others, last)

-- behind an "end": its word with a name behind it, if they stand there
abbrev pub name_behind_end : (Kind → Bool) → Reader Token → Reader (Option (List ℕ))
name_behind_end is_word word = do x ← optional is_word (word >> optional_name); pure (name_behind x)

-- what was read of a procedure, and what stands behind its parameters
abbrev pub proc_parts : {A : Type 0} → A → ℕ → Reader (A × List Stmt × (ℕ × Option (List ℕ)))
proc_parts head room = do
  expect k.Semicolon
  body ← stmts room
  last ← named_ending begins_proc proc_word
  pure (head, body, last)

-- behind the parameters of a procedure
abbrev pub proc_from : ℕ → ℕ → List ℕ → List Param → Reader Proc
proc_from room line name params = do
  expect k.Semicolon
  body ← stmts room
  last ← named_ending begins_proc proc_word
  pure (record { line = line; name = name; params = params; body = body; end_name = last.1; end_line = last.0 })

-- what was read of a program, and what stands behind its declarations
abbrev pub program_parts : {A : Type 0} → A → ℕ → Reader (A × List Stmt × List Proc × (ℕ × Option (List ℕ)))
program_parts head room = do
  body ← stmts room
  ps ← procs room
  last ← program_end
  pure (head, body, ps, last)

-- `program name;`
abbrev pub program_head : Reader (List ℕ)
program_head = do expect k.Program; x ← name; expect k.Semicolon; pure x

-- the names of the `var` lines
abbrev pub joined_vars : Reader (List Declared)
joined_vars = do xs ← vars; pure (joined xs)

-- behind the declarations of a program
abbrev pub program_from : ℕ → List ℕ → List Declared → List ReprLine → Reader Tree
program_from room name vars modes = do
  body ← stmts room
  ps ← procs room
  last ← program_end
  pure (record { name = name; vars = vars; modes = modes; body = body; procs = ps; end_name = last.1; end_line = last.0 })
