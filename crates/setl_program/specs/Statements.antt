-- What the statements of a tree become in a program.
use Rattle.std.specs.Prelude.{ℕ, List, [], ◌∷◌, map, Option, Some, None}
use Rattle.std.specs.Option.{option_map}
use Rattle.setl_tree.specs.declared.expr.BinaryOp.{BinaryOp}
use Rattle.setl_tree.specs.declared.expr.Slot.{Slot}
use Rattle.setl_tree.specs.declared.stmt.FromEnd.{FromEnd}
use Rattle.setl_tree.specs.declared.stmt.Place.{Place as PlaceTree}
use Rattle.setl_tree.specs.declared.stmt.Branch.{Branch as BranchTree, fold-Branch}
use Rattle.setl_tree.specs.declared.stmt.Stmt.{Stmt as StmtTree, fold-Stmt}
use Rattle.setl_tree.specs.declared.stmt.StmtKind.{StmtKind as KindTree, fold-StmtKind}
use Rattle.setl_tree.specs.declared.stmt.StmtKind.TheOpen.{StmtKind-F, Branch-F, Stmt-F}
use Rattle.setl_tree.specs.declared.tree.Param.{Param}
use Rattle.setl_names.specs.Names.{Name}
use Rattle.setl_program.specs.Program.{Expr, Undefined, Selectors, Place, Stmt, Assign, Update, AssignParts, TakeFrom, Perform, If, For, While, Quit, Continue, Fail, Succeed, Stop, Pass, Return, Print, Read, Block, no_stmt, more_stmts}
use Rattle.setl_program.specs.Lists.{exprs_of, iterators_of, condition_of, all_selectors, block_of, otherwise}
use Rattle.setl_program.specs.Numbered.{Numbered, pure, ◌>>=◌}
use Rattle.setl_program.specs.Scope.{Scope, variable_of, slot_variable, procedure_of}
use Rattle.setl_program.specs.Operators.{updating, taking}
use Rattle.setl_program.specs.Expressions.{Part, Turn, Behind, terms, optional, call, iterators, part_of, turn_of, behind_of}

-- ---- places

abbrev pub selectors : List Behind → Scope → Numbered (List (Selectors → Selectors))
selectors [] s = pure []
selectors (b ∷ bs) s = do first ← b.selector s; rest ← selectors bs s; pure (first ∷ rest)

abbrev pub place : PlaceTree → Scope → Numbered Place
place p s = do ss ← selectors (map behind_of p.selectors) s; pure (record { variable = variable_of s p.name; selectors = all_selectors ss })

-- ---- lists of statements

-- A statement with its line.
abbrev pub Lined : Type 0
Lined = Scope → Numbered (ℕ × Stmt)

abbrev pub statements : List Lined → Scope → Numbered (List (ℕ × Stmt))
statements [] s = pure []
statements (x ∷ xs) s = do first ← x s; rest ← statements xs s; pure (first ∷ rest)

abbrev pub optional_block : Option (List Lined) → Scope → Numbered (List (ℕ × Stmt))
optional_block None s = pure []
optional_block (Some xs) s = statements xs s

-- ---- kinds of statements

abbrev pub assignment : PlaceTree → Part → Scope → Numbered Stmt
assignment p x s = do q ← place p s; e ← x.term s; pure (Assign q e)

abbrev pub update : PlaceTree → BinaryOp → Part → Scope → Numbered Stmt
update p o x s = do q ← place p s; e ← x.term s; pure (Update (updating o) q e)

abbrev pub parts_assignment : List Slot → Part → Scope → Numbered Stmt
parts_assignment slots x s = do e ← x.term s; pure (AssignParts (map (slot_variable (variable_of s)) slots) e)

abbrev pub taking_from : Name → FromEnd → PlaceTree → Scope → Numbered Stmt
taking_from x end p s = do q ← place p s; pure (TakeFrom (taking end) (variable_of s x) q)

-- a call statement names a procedure
abbrev pub called : Option (ℕ × List Param) → List Part → Scope → Numbered Stmt
called None xs s = pure (Perform Undefined)
called (Some p) xs s = do e ← call p.0 p.1 xs s; pure (Perform e)

abbrev pub performance : Name → List Part → Scope → Numbered Stmt
performance f xs s = called (procedure_of s f) xs s

-- A condition and the statements that it guards.
pub record Guarded : Type 0 where
  pub test : Part
  pub body : List Lined

-- `elseif` before what follows it; it stands at the line of its `if`
abbrev pub guarded : ℕ → Guarded → Scope → Numbered (Block → Block)
guarded line g s = do e ← g.test.term s; a ← statements g.body s; pure (λ rest. more_stmts line (If e (block_of a) rest) no_stmt)

abbrev pub branches : ℕ → List Guarded → Scope → Numbered (List (Block → Block))
branches line [] s = pure []
branches line (g ∷ gs) s = do first ← guarded line g s; rest ← branches line gs s; pure (first ∷ rest)

abbrev pub choice : ℕ → Guarded → List Guarded → Option (List Lined) → Scope → Numbered Stmt
choice line first others last s = do
  e ← first.test.term s
  a ← statements first.body s
  bs ← branches line others s
  b ← optional_block last s
  pure (If e (block_of a) (otherwise bs (block_of b)))

abbrev pub for_loop : List Turn → Option Part → List Lined → Scope → Numbered Stmt
for_loop ts c body s = do
  is ← iterators ts s
  t ← optional c s
  b ← statements body s
  pure (For (iterators_of is) (condition_of t) (block_of b))

abbrev pub while_loop : Part → List Lined → Scope → Numbered Stmt
while_loop c body s = do e ← c.term s; b ← statements body s; pure (While e (block_of b))

abbrev pub returned : Option Expr → Expr
returned None = Undefined
returned (Some e) = e

abbrev pub return_of : Option Part → Scope → Numbered Stmt
return_of x s = do e ← optional x s; pure (Return (returned e))

abbrev pub print_of : List Part → Scope → Numbered Stmt
print_of xs s = do es ← terms xs s; pure (Print (exprs_of es))

abbrev pub read_of : List Name → Scope → Numbered Stmt
read_of xs s = pure (Read (map (variable_of s) xs))

-- ---- the whole

-- A kind of statement, by its line.
abbrev pub Kind : Type 0
Kind = ℕ → Scope → Numbered Stmt

abbrev pub kind_step : StmtKind-F Kind Guarded Lined → Kind
kind_step (StmtKind-F.Assign p x) line = assignment p (part_of x)
kind_step (StmtKind-F.Update p o x) line = update p o (part_of x)
kind_step (StmtKind-F.TupleAssign slots x) line = parts_assignment slots (part_of x)
kind_step (StmtKind-F.Take x end p) line = taking_from x end p
kind_step (StmtKind-F.Call f xs) line = performance f (map part_of xs)
kind_step (StmtKind-F.If first others last) line = choice line first others last
kind_step (StmtKind-F.For ts c body) line = for_loop (map turn_of ts) (option_map part_of c) body
kind_step (StmtKind-F.While c body) line = while_loop (part_of c) body
kind_step StmtKind-F.Quit line = λ s. pure Quit
kind_step StmtKind-F.Continue line = λ s. pure Continue
kind_step StmtKind-F.Fail line = λ s. pure Fail
kind_step StmtKind-F.Succeed line = λ s. pure Succeed
kind_step StmtKind-F.Stop line = λ s. pure Stop
kind_step StmtKind-F.Pass line = λ s. pure Pass
kind_step (StmtKind-F.Return x) line = return_of (option_map part_of x)
kind_step (StmtKind-F.Print xs) line = print_of (map part_of xs)
kind_step (StmtKind-F.Read xs) line = read_of xs

abbrev pub branch_step : Branch-F Kind Guarded Lined → Guarded
branch_step b = record { test = part_of b.condition; body = b.body }

abbrev pub stmt_step : Stmt-F Kind Guarded Lined → Lined
stmt_step x s = do k ← x.kind x.line s; pure (x.line, k)

abbrev pub kind_of : KindTree → Kind
kind_of = fold-StmtKind Kind Guarded Lined kind_step branch_step stmt_step

abbrev pub branch_of : BranchTree → Guarded
branch_of = fold-Branch Kind Guarded Lined kind_step branch_step stmt_step

abbrev pub lined : StmtTree → Lined
lined = fold-Stmt Kind Guarded Lined kind_step branch_step stmt_step

-- the statements of a body, whose formers are counted from 1
abbrev pub body_of : List StmtTree → Scope → Block
body_of xs s = block_of (statements (map lined xs) s 0).0
