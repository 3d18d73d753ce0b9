-- What stands in the statements of a body, in the order of the source's tokens.
use Rattle.std.specs.Prelude.{List, [], ◌∷◌, ◌++◌, map, Option, Some, None}
use Rattle.std.specs.Option.{option_map}
use Rattle.setl_tree.specs.declared.expr.Expr.{Expr}
use Rattle.setl_tree.specs.declared.expr.Slot.{Slot}
use Rattle.setl_names.specs.Names.{Name}
use Rattle.setl_tree.specs.declared.stmt.Place.{Place as Target}
use Rattle.setl_tree.specs.declared.stmt.Stmt.{Stmt, fold-Stmt}
use Rattle.setl_tree.specs.declared.stmt.StmtKind.{StmtKind, fold-StmtKind}
use Rattle.setl_tree.specs.declared.stmt.Branch.{Branch, fold-Branch}
use Rattle.setl_tree.specs.declared.stmt.StmtKind.TheOpen.{StmtKind-F, Branch-F, Stmt-F}
use Rattle.setl_names.specs.declared.occurrence.What.TheVariants as what
use Rattle.setl_names.specs.declared.occurrence.Occurrence.{Occurrence}
use Rattle.setl_names.specs.Places.{Place, in_a_loop, in_statement}
use Rattle.setl_names.specs.declared.around.Around.{Around}
use Rattle.setl_names.specs.Occurrences.{Standing, Turn, at, named, all_named, names_of_slots, all_parts, optional_part, all_behind, applied, ordinary_turns, part, turn, behind, standing_in}

-- What stands in a statement, by where it stands.
abbrev pub Told : Type 0
Told = Around → List Occurrence

abbrev pub all_told : List Told → Told
all_told [] a = []
all_told (x ∷ xs) a = x a ++ all_told xs a

abbrev pub optional_told : Option (List Told) → Told
optional_told None a = []
optional_told (Some xs) a = all_told xs a

-- the name of a place that is stored to, and its selectors
abbrev pub target : Target → Standing
target x p = named x.name p ++ all_behind (map behind x.selectors) p

abbrev pub tuple_target : List Slot → Standing
tuple_target slots p = all_named (names_of_slots slots) p ++ at p (what.Target (names_of_slots slots)) ∷ []

-- a call statement
abbrev pub call : Name → List Expr → Standing
call f xs p = at p (what.CallStatement f) ∷ applied f (map part xs) p

-- `quit` or `continue`
abbrev pub quit : Around → Standing
quit a p = at p (what.Quit a.in_loop) ∷ []

abbrev pub expressions : List Expr → Standing
expressions xs p = all_parts (map part xs) p

abbrev pub optional_expression : Option Expr → Standing
optional_expression x p = optional_part (option_map part x) p

-- A branch or a statement's kind, by the place of the statement's expressions.
abbrev pub Placed : Type 0
Placed = Place → Told

abbrev pub all_branches : List Placed → Placed
all_branches [] p a = []
all_branches (x ∷ xs) p a = x p a ++ all_branches xs p a

-- `return`
abbrev pub return_ : Around → Option Expr → Standing
return_ a x p = at p (what.Return a.in_procedure) ∷ optional_expression x p

abbrev pub for_loop : List Turn → Option Expr → List Told → Placed
for_loop is c body p a = ordinary_turns is p ++ (optional_expression c p ++ all_told body (in_a_loop a))

abbrev pub while_loop : Expr → List Told → Placed
while_loop c body p a = standing_in c p ++ all_told body (in_a_loop a)

abbrev pub kind_step : StmtKind-F Placed Placed Told → Placed
kind_step (StmtKind-F.Assign x e) p a = target x p ++ standing_in e p
kind_step (StmtKind-F.Update x o e) p a = target x p ++ standing_in e p
kind_step (StmtKind-F.TupleAssign slots e) p a = tuple_target slots p ++ standing_in e p
kind_step (StmtKind-F.Take x w y) p a = named x p ++ target y p
kind_step (StmtKind-F.Call f xs) p a = call f xs p
kind_step (StmtKind-F.If first others last) p a = first p a ++ (all_branches others p a ++ optional_told last a)
kind_step (StmtKind-F.For is c body) p a = for_loop (map turn is) c body p a
kind_step (StmtKind-F.While c body) p a = while_loop c body p a
kind_step StmtKind-F.Quit p a = quit a p
kind_step StmtKind-F.Continue p a = quit a p
kind_step StmtKind-F.Fail p a = []
kind_step StmtKind-F.Succeed p a = []
kind_step StmtKind-F.Stop p a = []
kind_step StmtKind-F.Pass p a = []
kind_step (StmtKind-F.Return x) p a = return_ a x p
kind_step (StmtKind-F.Print xs) p a = expressions xs p
kind_step (StmtKind-F.Read xs) p a = all_named xs p

abbrev pub branch_step : Branch-F Placed Placed Told → Placed
branch_step b p a = standing_in b.condition p ++ all_told b.body a

abbrev pub stmt_step : Stmt-F Placed Placed Told → Told
stmt_step s a = s.kind (in_statement s.line) a

abbrev pub stmt_told : Stmt → Told
stmt_told = fold-Stmt Placed Placed Told kind_step branch_step stmt_step

abbrev pub kind_told : StmtKind → Placed
kind_told = fold-StmtKind Placed Placed Told kind_step branch_step stmt_step

abbrev pub branch_told : Branch → Placed
branch_told = fold-Branch Placed Placed Told kind_step branch_step stmt_step

-- what stands in statements
abbrev pub told : List Stmt → Told
told ss a = all_told (map stmt_told ss) a
