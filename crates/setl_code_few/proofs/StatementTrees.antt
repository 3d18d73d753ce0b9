-- Each form of a statement's tree becomes what is no larger than its tokens are many.
use Rattle.std.proofs.Common.{◌≤◌, ℕ, suc, ◌+◌, List, map, length, Option, Some, None, option_map, sym, ap, ◌∙◌, arith}
use Rattle.setl_tree.specs.declared.expr.BinaryOp.{BinaryOp}
use Rattle.setl_tree.specs.declared.expr.Expr.{Expr}
use Rattle.setl_tree.specs.declared.expr.Iter.{Iter}
use Rattle.setl_tree.specs.declared.expr.Slot.{Slot}
use Rattle.setl_tree.specs.declared.stmt.Place.{Place as Target}
use Rattle.setl_tree.specs.declared.stmt.FromEnd.{FromEnd}
use Rattle.setl_tree.specs.declared.stmt.Branch.{Branch, roll-Branch, fold-roll-Branch}
use Rattle.setl_tree.specs.declared.stmt.Stmt.{Stmt, roll-Stmt, fold-roll-Stmt}
use Rattle.setl_tree.specs.declared.stmt.StmtKind.{StmtKind, fold-roll-StmtKind}
use Rattle.setl_tree.specs.declared.stmt.StmtKind.TheVariants as st
use Rattle.setl_tree.specs.declared.stmt.StmtKind.TheOpen.{StmtKind-F}
use Rattle.setl_names.specs.Names.{Name as Word}
use Rattle.setl_program.specs.Expressions as q
use Rattle.setl_program.specs.Statements as qs
use Rattle.setl_code_few.proofs.Languages.{Beside, Each, Maybe, mapped, option_mapped}
use Rattle.setl_code_few.proofs.Parts.{PartIn, TurnIn}
use Rattle.setl_code_few.proofs.Selections.{BehindIn}
use Rattle.setl_code_few.proofs.Statements.{KindIn, LinedIn, GuardedIn, assignment_in, update_in, parts_in, taking_in, performance_in, choice_in, for_in, while_in, quit_in, continue_in, fail_in, succeed_in, stop_in, pass_in, return_in, print_in, read_in}
use Rattle.setl_code_few.proofs.Trees.{carried, Good, GoodIter, GoodSelector}

abbrev pub GoodKind : StmtKind → ℕ → Type 0
GoodKind y n = KindIn (qs.kind_of y) n

abbrev pub GoodStmt : Stmt → ℕ → Type 0
GoodStmt y n = LinedIn (qs.lined y) n

abbrev pub GoodBranch : Branch → ℕ → Type 0
GoodBranch y n = GuardedIn (qs.branch_of y) n

-- a place: its name and its selectors
abbrev pub GoodPlace : Target → ℕ → Type 0
GoodPlace t n = Beside (Each GoodSelector t.selectors) n

placed : (t : Target) (n : ℕ) → Each GoodSelector t.selectors n → Each BehindIn (map q.behind_of t.selectors) n
placed t n h = mapped q.behind_of BehindIn t.selectors n h

told : (xs : List Stmt) (n : ℕ) → Each GoodStmt xs n → Each LinedIn (map qs.lined xs) n
told xs n h = mapped qs.lined LinedIn xs n h

pub good_stmt : (line : ℕ) (kind : StmtKind) (n : ℕ) → GoodKind kind n → GoodStmt (roll-Stmt (record { line = line; kind = kind })) n
good_stmt line kind n h = carried (λ x. LinedIn x n)
    (fold-roll-Stmt qs.Kind qs.Guarded qs.Lined qs.kind_step qs.branch_step qs.stmt_step (record { line = line; kind = kind }))
    (record { at = λ s m. record { at_most = (h.at line s m).at_most } })

pub good_branch : (t : Expr) (body : List Stmt) (i j n : ℕ) → Good t i → Each GoodStmt body j → suc (i + j) ≤ n → GoodBranch (roll-Branch (record { condition = t; body = body })) n
good_branch t body i j n g h le = carried (λ x. GuardedIn x n)
    (fold-roll-Branch qs.Kind qs.Guarded qs.Lined qs.kind_step qs.branch_step qs.stmt_step (record { condition = t; body = body }))
    (record { one = i; two = j; fits = le; test = g; body = told body j h })

pub is_assign : (t : Target) (x : Expr) {i j : ℕ} (n : ℕ) → GoodPlace t i → Good x j → i + j ≤ n → GoodKind (st.Assign t x) n
is_assign t x n g h le = carried (λ x. KindIn x n) (ap qs.kind_of (sym (st.rolls-Assign t x)) ∙ fold-roll-StmtKind qs.Kind qs.Guarded qs.Lined qs.kind_step qs.branch_step qs.stmt_step (StmtKind-F.Assign t x)) (let named = g.fits in assignment_in t (q.part_of x) g.less (placed t g.less g.part) h (omega (arith, named, le)))

pub is_update : (t : Target) (f : BinaryOp) (x : Expr) {i j : ℕ} (n : ℕ) → GoodPlace t i → Good x j → i + j ≤ n → GoodKind (st.Update t f x) n
is_update t f x n g h le = carried (λ x. KindIn x n) (ap qs.kind_of (sym (st.rolls-Update t f x)) ∙ fold-roll-StmtKind qs.Kind qs.Guarded qs.Lined qs.kind_step qs.branch_step qs.stmt_step (StmtKind-F.Update t f x)) (let named = g.fits in update_in t f (q.part_of x) g.less (placed t g.less g.part) h (omega (arith, named, le)))

pub is_tuple_assign : (slots : List Slot) (x : Expr) {j : ℕ} (n : ℕ) → Good x j → suc (length slots + j) ≤ n → GoodKind (st.TupleAssign slots x) n
is_tuple_assign slots x n h le = carried (λ x. KindIn x n) (ap qs.kind_of (sym (st.rolls-TupleAssign slots x)) ∙ fold-roll-StmtKind qs.Kind qs.Guarded qs.Lined qs.kind_step qs.branch_step qs.stmt_step (StmtKind-F.TupleAssign slots x)) (parts_in slots (q.part_of x) h le)

pub is_take : (x : Word) (end : FromEnd) (t : Target) {i : ℕ} (n : ℕ) → GoodPlace t i → suc i ≤ n → GoodKind (st.Take x end t) n
is_take x end t n g le = carried (λ x. KindIn x n) (ap qs.kind_of (sym (st.rolls-Take x end t)) ∙ fold-roll-StmtKind qs.Kind qs.Guarded qs.Lined qs.kind_step qs.branch_step qs.stmt_step (StmtKind-F.Take x end t)) (let named = g.fits in taking_in x end t (placed t g.less g.part) (omega (arith, named, le)))

pub is_call : (f : Word) (xs : List Expr) {i : ℕ} (n : ℕ) → Each Good xs i → suc (suc i) ≤ n → GoodKind (st.Call f xs) n
is_call f xs {i} n h le = carried (λ x. KindIn x n) (ap qs.kind_of (sym (st.rolls-Call f xs)) ∙ fold-roll-StmtKind qs.Kind qs.Guarded qs.Lined qs.kind_step qs.branch_step qs.stmt_step (StmtKind-F.Call f xs)) (performance_in f (map q.part_of xs) (mapped q.part_of PartIn xs i h) le)

pub is_if : (first_one : Branch) (others : List Branch) (last : Option (List Stmt)) (j k : ℕ) {i : ℕ} (n : ℕ) → GoodBranch first_one i → Each GoodBranch others j → Maybe (Each GoodStmt) last k → i + (j + k) ≤ n → GoodKind (st.If first_one others last) n
is_if first_one others None j k n f g h le = carried (λ x. KindIn x n) (ap qs.kind_of (sym (st.rolls-If first_one others None)) ∙ fold-roll-StmtKind qs.Kind qs.Guarded qs.Lined qs.kind_step qs.branch_step qs.stmt_step (StmtKind-F.If first_one others None)) (choice_in (qs.branch_of first_one) (map qs.branch_of others) None j k f (mapped qs.branch_of GuardedIn others j g) tt le)
is_if first_one others (Some body) j k n f g h le = carried (λ x. KindIn x n) (ap qs.kind_of (sym (st.rolls-If first_one others (Some body))) ∙ fold-roll-StmtKind qs.Kind qs.Guarded qs.Lined qs.kind_step qs.branch_step qs.stmt_step (StmtKind-F.If first_one others (Some body))) (choice_in (qs.branch_of first_one) (map qs.branch_of others) (Some (map qs.lined body)) j k f (mapped qs.branch_of GuardedIn others j g) (told body k h) le)

pub is_for : (is : List Iter) (t : Option Expr) (body : List Stmt) (i j k n : ℕ) → Each GoodIter is i → Maybe Good t j → Each GoodStmt body k → suc (i + (j + k)) ≤ n → GoodKind (st.For is t body) n
is_for is t body i j k n g h l le = carried (λ x. KindIn x n) (ap qs.kind_of (sym (st.rolls-For is t body)) ∙ fold-roll-StmtKind qs.Kind qs.Guarded qs.Lined qs.kind_step qs.branch_step qs.stmt_step (StmtKind-F.For is t body)) (for_in (map q.turn_of is) (option_map q.part_of t) (map qs.lined body) i j k (mapped q.turn_of TurnIn is i g) (option_mapped q.part_of PartIn t j h) (told body k l) le)

pub is_while : (t : Expr) (body : List Stmt) (i j n : ℕ) → Good t i → Each GoodStmt body j → suc (i + j) ≤ n → GoodKind (st.While t body) n
is_while t body i j n g h le = carried (λ x. KindIn x n) (ap qs.kind_of (sym (st.rolls-While t body)) ∙ fold-roll-StmtKind qs.Kind qs.Guarded qs.Lined qs.kind_step qs.branch_step qs.stmt_step (StmtKind-F.While t body)) (while_in (q.part_of t) (map qs.lined body) j g (told body j h) le)

pub is_quit : (n : ℕ) → 1 ≤ n → GoodKind st.Quit n
is_quit n le = carried (λ x. KindIn x n) (ap qs.kind_of (sym st.rolls-Quit) ∙ fold-roll-StmtKind qs.Kind qs.Guarded qs.Lined qs.kind_step qs.branch_step qs.stmt_step StmtKind-F.Quit) (quit_in le)

pub is_continue : (n : ℕ) → 1 ≤ n → GoodKind st.Continue n
is_continue n le = carried (λ x. KindIn x n) (ap qs.kind_of (sym st.rolls-Continue) ∙ fold-roll-StmtKind qs.Kind qs.Guarded qs.Lined qs.kind_step qs.branch_step qs.stmt_step StmtKind-F.Continue) (continue_in le)

pub is_fail : (n : ℕ) → 1 ≤ n → GoodKind st.Fail n
is_fail n le = carried (λ x. KindIn x n) (ap qs.kind_of (sym st.rolls-Fail) ∙ fold-roll-StmtKind qs.Kind qs.Guarded qs.Lined qs.kind_step qs.branch_step qs.stmt_step StmtKind-F.Fail) (fail_in le)

pub is_succeed : (n : ℕ) → 1 ≤ n → GoodKind st.Succeed n
is_succeed n le = carried (λ x. KindIn x n) (ap qs.kind_of (sym st.rolls-Succeed) ∙ fold-roll-StmtKind qs.Kind qs.Guarded qs.Lined qs.kind_step qs.branch_step qs.stmt_step StmtKind-F.Succeed) (succeed_in le)

pub is_stop : (n : ℕ) → 1 ≤ n → GoodKind st.Stop n
is_stop n le = carried (λ x. KindIn x n) (ap qs.kind_of (sym st.rolls-Stop) ∙ fold-roll-StmtKind qs.Kind qs.Guarded qs.Lined qs.kind_step qs.branch_step qs.stmt_step StmtKind-F.Stop) (stop_in le)

pub is_pass : (n : ℕ) → 1 ≤ n → GoodKind st.Pass n
is_pass n le = carried (λ x. KindIn x n) (ap qs.kind_of (sym st.rolls-Pass) ∙ fold-roll-StmtKind qs.Kind qs.Guarded qs.Lined qs.kind_step qs.branch_step qs.stmt_step StmtKind-F.Pass) (pass_in le)

pub is_return : (x : Option Expr) {j : ℕ} (n : ℕ) → Maybe Good x j → suc j ≤ n → 2 ≤ n → GoodKind (st.Return x) n
is_return x {j} n h le some = carried (λ x. KindIn x n) (ap qs.kind_of (sym (st.rolls-Return x)) ∙ fold-roll-StmtKind qs.Kind qs.Guarded qs.Lined qs.kind_step qs.branch_step qs.stmt_step (StmtKind-F.Return x)) (return_in (option_map q.part_of x) (option_mapped q.part_of PartIn x j h) le some)

pub is_print : (xs : List Expr) {j : ℕ} (n : ℕ) → Each Good xs j → suc j ≤ n → GoodKind (st.Print xs) n
is_print xs {j} n h le = carried (λ x. KindIn x n) (ap qs.kind_of (sym (st.rolls-Print xs)) ∙ fold-roll-StmtKind qs.Kind qs.Guarded qs.Lined qs.kind_step qs.branch_step qs.stmt_step (StmtKind-F.Print xs)) (print_in (map q.part_of xs) (mapped q.part_of PartIn xs j h) le)

pub is_read : (xs : List Word) (n : ℕ) → suc (length xs) ≤ n → GoodKind (st.Read xs) n
is_read xs n le = carried (λ x. KindIn x n) (ap qs.kind_of (sym (st.rolls-Read xs)) ∙ fold-roll-StmtKind qs.Kind qs.Guarded qs.Lined qs.kind_step qs.branch_step qs.stmt_step (StmtKind-F.Read xs)) (read_in xs le)
