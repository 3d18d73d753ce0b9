-- Each form of a statement's tree becomes a statement that has values for literals, where its parts do.
use Rattle.std.proofs.Common.{ℕ, List, [], ◌∷◌, map, Option, Some, None, option_map, sym, ap, ◌∙◌}
use Rattle.setl_tree.specs.declared.expr.BinaryOp.{BinaryOp}
use Rattle.setl_tree.specs.declared.expr.Expr.{Expr}
use Rattle.setl_tree.specs.declared.expr.Iter.{Iter}
use Rattle.setl_tree.specs.declared.expr.Slot.{Slot}
use Rattle.setl_tree.specs.declared.stmt.Place.{Place as Target}
use Rattle.setl_tree.specs.declared.stmt.FromEnd.{FromEnd}
use Rattle.setl_tree.specs.declared.stmt.Branch.{Branch, roll-Branch, fold-roll-Branch}
use Rattle.setl_tree.specs.declared.stmt.Stmt.{Stmt, roll-Stmt, fold-roll-Stmt}
use Rattle.setl_tree.specs.declared.stmt.StmtKind.{StmtKind, fold-roll-StmtKind}
use Rattle.setl_tree.specs.declared.stmt.StmtKind.TheVariants as st
use Rattle.setl_tree.specs.declared.stmt.StmtKind.TheOpen.{StmtKind-F}
use Rattle.setl_names.specs.Names.{Name as Word}
use Rattle.setl_program.specs.Program as program
use Rattle.setl_program.specs.Expressions as q
use Rattle.setl_program.specs.Statements as qs
use Rattle.setl_top_values.proofs.Languages.{Each, Maybe}
use Rattle.setl_top_values.proofs.Trees.{Good, GoodIter, GoodSelector, carried, all_good, option_good, turns_good, selectors_good}
use Rattle.setl_top_values.proofs.Statements.{KindStands, LineStands, GuardedStands, assignment_stands, update_stands, parts_stand, taking_stands, performance_stands, if_stands, for_stands, while_stands, simple_stands, return_stands, print_stands, read_stands, lined_stands}

abbrev pub GoodKind : StmtKind → Type 0
GoodKind y = KindStands (qs.kind_of y)

abbrev pub GoodStmt : Stmt → Type 0
GoodStmt y = LineStands (qs.lined y)

abbrev pub GoodBranch : Branch → Type 0
GoodBranch y = GuardedStands (qs.branch_of y)

abbrev pub GoodPlace : Target → Type 0
GoodPlace t = Each GoodSelector t.selectors

-- ---- lists

pub all_stmts : (xs : List Stmt) → Each GoodStmt xs → Each LineStands (map qs.lined xs)
all_stmts [] h = tt
all_stmts (x ∷ xs) h = (h.0, all_stmts xs h.1)

all_branches : (xs : List Branch) → Each GoodBranch xs → Each GuardedStands (map qs.branch_of xs)
all_branches [] h = tt
all_branches (x ∷ xs) h = (h.0, all_branches xs h.1)

-- ---- each form

pub good_stmt : (line : ℕ) (kind : StmtKind) → GoodKind kind → GoodStmt (roll-Stmt (record { line = line; kind = kind }))
good_stmt line kind h = carried LineStands (fold-roll-Stmt qs.Kind qs.Guarded qs.Lined qs.kind_step qs.branch_step qs.stmt_step (record { line = line; kind = kind })) (lined_stands line (qs.kind_of kind) h)

pub good_branch : (t : Expr) (body : List Stmt) → Good t → Each GoodStmt body → GoodBranch (roll-Branch (record { condition = t; body = body }))
good_branch t body g h = carried GuardedStands (fold-roll-Branch qs.Kind qs.Guarded qs.Lined qs.kind_step qs.branch_step qs.stmt_step (record { condition = t; body = body })) (record { test = g; body = all_stmts body h })

pub is_assign : (t : Target) (x : Expr) → GoodPlace t → Good x → GoodKind (st.Assign t x)
is_assign t x g h = carried KindStands (ap qs.kind_of (sym (st.rolls-Assign t x)) ∙ fold-roll-StmtKind qs.Kind qs.Guarded qs.Lined qs.kind_step qs.branch_step qs.stmt_step (StmtKind-F.Assign t x)) (assignment_stands t (q.part_of x) (selectors_good t.selectors g) h)

pub is_update : (t : Target) (f : BinaryOp) (x : Expr) → GoodPlace t → Good x → GoodKind (st.Update t f x)
is_update t f x g h = carried KindStands (ap qs.kind_of (sym (st.rolls-Update t f x)) ∙ fold-roll-StmtKind qs.Kind qs.Guarded qs.Lined qs.kind_step qs.branch_step qs.stmt_step (StmtKind-F.Update t f x)) (update_stands t f (q.part_of x) (selectors_good t.selectors g) h)

pub is_tuple_assign : (slots : List Slot) (x : Expr) → Good x → GoodKind (st.TupleAssign slots x)
is_tuple_assign slots x h = carried KindStands (ap qs.kind_of (sym (st.rolls-TupleAssign slots x)) ∙ fold-roll-StmtKind qs.Kind qs.Guarded qs.Lined qs.kind_step qs.branch_step qs.stmt_step (StmtKind-F.TupleAssign slots x)) (parts_stand slots (q.part_of x) h)

pub is_take : (x : Word) (end : FromEnd) (t : Target) → GoodPlace t → GoodKind (st.Take x end t)
is_take x end t g = carried KindStands (ap qs.kind_of (sym (st.rolls-Take x end t)) ∙ fold-roll-StmtKind qs.Kind qs.Guarded qs.Lined qs.kind_step qs.branch_step qs.stmt_step (StmtKind-F.Take x end t)) (taking_stands x end t (selectors_good t.selectors g))

pub is_call : (f : Word) (xs : List Expr) → Each Good xs → GoodKind (st.Call f xs)
is_call f xs h = carried KindStands (ap qs.kind_of (sym (st.rolls-Call f xs)) ∙ fold-roll-StmtKind qs.Kind qs.Guarded qs.Lined qs.kind_step qs.branch_step qs.stmt_step (StmtKind-F.Call f xs)) (performance_stands f (map q.part_of xs) (all_good xs h))

pub is_if : (first : Branch) (others : List Branch) (last : Option (List Stmt)) → GoodBranch first → Each GoodBranch others → Maybe (Each GoodStmt) last → GoodKind (st.If first others last)
is_if first others None f g h = carried KindStands (ap qs.kind_of (sym (st.rolls-If first others None)) ∙ fold-roll-StmtKind qs.Kind qs.Guarded qs.Lined qs.kind_step qs.branch_step qs.stmt_step (StmtKind-F.If first others None)) (if_stands (qs.branch_of first) (map qs.branch_of others) None f (all_branches others g) tt)
is_if first others (Some last) f g h = carried KindStands (ap qs.kind_of (sym (st.rolls-If first others (Some last))) ∙ fold-roll-StmtKind qs.Kind qs.Guarded qs.Lined qs.kind_step qs.branch_step qs.stmt_step (StmtKind-F.If first others (Some last))) (if_stands (qs.branch_of first) (map qs.branch_of others) (Some (map qs.lined last)) f (all_branches others g) (all_stmts last h))

pub is_for : (is : List Iter) (t : Option Expr) (body : List Stmt) → Each GoodIter is → Maybe Good t → Each GoodStmt body → GoodKind (st.For is t body)
is_for is t body g h j = carried KindStands (ap qs.kind_of (sym (st.rolls-For is t body)) ∙ fold-roll-StmtKind qs.Kind qs.Guarded qs.Lined qs.kind_step qs.branch_step qs.stmt_step (StmtKind-F.For is t body)) (for_stands (map q.turn_of is) (option_map q.part_of t) (map qs.lined body) (turns_good is g) (option_good t h) (all_stmts body j))

pub is_while : (t : Expr) (body : List Stmt) → Good t → Each GoodStmt body → GoodKind (st.While t body)
is_while t body g h = carried KindStands (ap qs.kind_of (sym (st.rolls-While t body)) ∙ fold-roll-StmtKind qs.Kind qs.Guarded qs.Lined qs.kind_step qs.branch_step qs.stmt_step (StmtKind-F.While t body)) (while_stands (q.part_of t) (map qs.lined body) g (all_stmts body h))

pub is_quit : GoodKind st.Quit
is_quit = carried KindStands (ap qs.kind_of (sym st.rolls-Quit) ∙ fold-roll-StmtKind qs.Kind qs.Guarded qs.Lined qs.kind_step qs.branch_step qs.stmt_step StmtKind-F.Quit) (simple_stands program.Quit tt)

pub is_continue : GoodKind st.Continue
is_continue = carried KindStands (ap qs.kind_of (sym st.rolls-Continue) ∙ fold-roll-StmtKind qs.Kind qs.Guarded qs.Lined qs.kind_step qs.branch_step qs.stmt_step StmtKind-F.Continue) (simple_stands program.Continue tt)

pub is_fail : GoodKind st.Fail
is_fail = carried KindStands (ap qs.kind_of (sym st.rolls-Fail) ∙ fold-roll-StmtKind qs.Kind qs.Guarded qs.Lined qs.kind_step qs.branch_step qs.stmt_step StmtKind-F.Fail) (simple_stands program.Fail tt)

pub is_succeed : GoodKind st.Succeed
is_succeed = carried KindStands (ap qs.kind_of (sym st.rolls-Succeed) ∙ fold-roll-StmtKind qs.Kind qs.Guarded qs.Lined qs.kind_step qs.branch_step qs.stmt_step StmtKind-F.Succeed) (simple_stands program.Succeed tt)

pub is_stop : GoodKind st.Stop
is_stop = carried KindStands (ap qs.kind_of (sym st.rolls-Stop) ∙ fold-roll-StmtKind qs.Kind qs.Guarded qs.Lined qs.kind_step qs.branch_step qs.stmt_step StmtKind-F.Stop) (simple_stands program.Stop tt)

pub is_pass : GoodKind st.Pass
is_pass = carried KindStands (ap qs.kind_of (sym st.rolls-Pass) ∙ fold-roll-StmtKind qs.Kind qs.Guarded qs.Lined qs.kind_step qs.branch_step qs.stmt_step StmtKind-F.Pass) (simple_stands program.Pass tt)

pub is_return : (x : Option Expr) → Maybe Good x → GoodKind (st.Return x)
is_return x h = carried KindStands (ap qs.kind_of (sym (st.rolls-Return x)) ∙ fold-roll-StmtKind qs.Kind qs.Guarded qs.Lined qs.kind_step qs.branch_step qs.stmt_step (StmtKind-F.Return x)) (return_stands (option_map q.part_of x) (option_good x h))

pub is_print : (xs : List Expr) → Each Good xs → GoodKind (st.Print xs)
is_print xs h = carried KindStands (ap qs.kind_of (sym (st.rolls-Print xs)) ∙ fold-roll-StmtKind qs.Kind qs.Guarded qs.Lined qs.kind_step qs.branch_step qs.stmt_step (StmtKind-F.Print xs)) (print_stands (map q.part_of xs) (all_good xs h))

pub is_read : (xs : List Word) → GoodKind (st.Read xs)
is_read xs = carried KindStands (ap qs.kind_of (sym (st.rolls-Read xs)) ∙ fold-roll-StmtKind qs.Kind qs.Guarded qs.Lined qs.kind_step qs.branch_step qs.stmt_step (StmtKind-F.Read xs)) (read_stands xs)
