-- The tree of the trial's program.
use Rattle.std.proofs.Common.{ℕ, pos, List, [], ◌∷◌, Option, Some, None}
use Rattle.std.specs.Prelude.{codes}
use Rattle.setl_tree.specs.declared.mode.Attribute.{Attribute}
use Rattle.setl_tree.specs.declared.mode.Attribute.TheVariants as at
use Rattle.setl_tree.specs.declared.mode.Core.{Core}
use Rattle.setl_tree.specs.declared.mode.Core.TheVariants as co
use Rattle.setl_tree.specs.declared.mode.WrittenMode.{WrittenMode, roll-WrittenMode}
use Rattle.setl_tree.specs.declared.mode.ReprLine.{ReprLine}
use Rattle.setl_tree.specs.declared.mode.ReprLine.TheVariants as rl
use Rattle.setl_tree.specs.declared.expr.BinaryOp.TheVariants as op
use Rattle.setl_tree.specs.declared.expr.Relation.TheVariants as rel
use Rattle.setl_tree.specs.declared.expr.Prefix.TheVariants as pre
use Rattle.setl_tree.specs.declared.expr.Bound.TheVariants as bd
use Rattle.setl_tree.specs.declared.expr.Inner.TheVariants as inn
use Rattle.setl_tree.specs.declared.expr.Iter.TheVariants as it
use Rattle.setl_tree.specs.declared.expr.Selector.{Selector}
use Rattle.setl_tree.specs.declared.expr.Selector.TheVariants as se
use Rattle.setl_tree.specs.declared.expr.Expr.{Expr}
use Rattle.setl_tree.specs.declared.expr.Expr.TheVariants as e
use Rattle.setl_tree.specs.declared.stmt.FromEnd.TheVariants as fr
use Rattle.setl_tree.specs.declared.stmt.Place.{Place}
use Rattle.setl_tree.specs.declared.stmt.Branch.{Branch, roll-Branch}
use Rattle.setl_tree.specs.declared.stmt.Stmt.{Stmt, roll-Stmt}
use Rattle.setl_tree.specs.declared.stmt.StmtKind.{StmtKind}
use Rattle.setl_tree.specs.declared.stmt.StmtKind.TheVariants as st
use Rattle.setl_tree.specs.declared.tree.Declared.{Declared}
use Rattle.setl_tree.specs.declared.tree.Tree.{Tree}

abbrev pub Name : Type 0
Name = List ℕ

-- ---- its declarations

abbrev pub node : Name
node = codes "node"

abbrev pub g : Name
g = codes "g"

abbrev pub seen : Name
seen = codes "seen"

abbrev pub declared : ℕ → Name → List Declared
declared line x = record { line = line; name = x } ∷ []

abbrev pub mode : ℕ → Option Attribute → Core → WrittenMode
mode line attribute core = roll-WrittenMode (record { line = line; attribute = attribute; core = core })

-- elmt node
abbrev pub element : ℕ → WrittenMode
element line = mode line None (co.Elmt line node)

abbrev pub int : WrittenMode
int = mode 3 None co.Int

-- local mmap{elmt node} sparse set(elmt node)
abbrev pub map_mode : WrittenMode
map_mode = mode 4 (Some at.Local) (co.Mmap (element 4) (mode 4 (Some at.Sparse) (co.Set (element 4))))

-- remote set(elmt node)
abbrev pub set_mode : WrittenMode
set_mode = mode 5 (Some at.Remote) (co.Set (element 5))

abbrev pub modes : List ReprLine
modes =
    rl.Base 3 (declared 3 node) (Some int)
    ∷ rl.Variables 4 (declared 4 g) map_mode
    ∷ rl.Variables 5 (declared 5 seen) set_mode
    ∷ []

-- ---- its statements

abbrev pub todo : Name
todo = codes "todo"

abbrev pub edge : Name
edge = codes "e"

abbrev pub x : Name
x = codes "x"

abbrev pub y : Name
y = codes "y"

abbrev pub empty_set : Expr
empty_set = e.Set (inn.List [])

abbrev pub empty_tuple : Expr
empty_tuple = e.Tuple (inn.List [])

abbrev pub first_node : Expr
first_node = e.Tuple (inn.List (e.Number (pos 1) ∷ []))

-- e(n)
abbrev pub component : ℕ → Expr
component n = e.Selected (e.Name edge) (se.Round (e.Number (pos n) ∷ []) ∷ [])

-- g{x}
abbrev pub images : Expr
images = e.Selected (e.Name g) (se.Braces (e.Name x ∷ []) ∷ [])

abbrev pub place : Name → List Selector → Place
place a selectors = record { name = a; selectors = selectors }

abbrev pub statement : ℕ → StmtKind → Stmt
statement line kind = roll-Stmt (record { line = line; kind = kind })

abbrev pub read_edge : ℕ → Stmt
read_edge line = statement line (st.Read (edge ∷ []))

-- s with:= v
abbrev pub adds : ℕ → Name → List Selector → Expr → Stmt
adds line s selectors v = statement line (st.Update (place s selectors) op.With v)

abbrev pub sets : Name → Expr → Stmt
sets a v = statement 7 (st.Assign (place a []) v)

abbrev pub reading_loop : Stmt
reading_loop =
    statement 9 (st.While (e.Compare (e.Name edge) rel.NotEqual e.Om)
    (adds 9 g (se.Braces (component 1 ∷ []) ∷ []) (component 2) ∷ read_edge 9 ∷ []))

abbrev pub following_loop : Stmt
following_loop = statement 14 (st.For (it.Over (bd.Name y) images ∷ []) None (adds 14 todo [] (e.Name y) ∷ []))

abbrev pub branch : Branch
branch = roll-Branch (record { condition = e.Compare (e.Name x) rel.Notin (e.Name seen); body = adds 13 seen [] (e.Name x) ∷ following_loop ∷ [] })

abbrev pub working_loop : Stmt
working_loop =
    statement 10 (st.While (e.Compare (e.Name todo) rel.NotEqual empty_tuple)
    (statement 11 (st.Take x fr.Fromb (place todo [])) ∷ statement 12 (st.If branch [] None) ∷ []))

abbrev pub body : List Stmt
body =
    sets g empty_set
    ∷ sets seen empty_set
    ∷ sets todo first_node
    ∷ read_edge 8
    ∷ reading_loop
    ∷ working_loop
    ∷ statement 17 (st.Print (e.Prefixed (pre.Size ∷ []) (e.Name seen) ∷ []))
    ∷ []

abbrev pub trial_tree : Tree
trial_tree = record { name = codes "trial"; vars = []; modes = modes; body = body; procs = []; end_name = None; end_line = 18 }
