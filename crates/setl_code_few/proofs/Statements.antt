-- What the parts of a statement's tree become is no larger than their tokens are many.
use Rattle.std.proofs.Common.{◌≤◌, ℕ, suc, ◌+◌, List, [], ◌∷◌, map, length, Option, Some, None, arith}
use Rattle.setl_tree.specs.declared.expr.BinaryOp.{BinaryOp}
use Rattle.setl_tree.specs.declared.expr.Slot.{Slot}
use Rattle.setl_tree.specs.declared.stmt.Place.{Place as Target}
use Rattle.setl_tree.specs.declared.stmt.FromEnd.{FromEnd}
use Rattle.setl_tree.specs.declared.tree.Param.{Param}
use Rattle.setl_names.specs.Names.{Name as Word}
use Rattle.setl_model_runs.specs.Variable.{Variable}
use Rattle.setl_operators_table.specs.declared.Operator.{Operator}
use Rattle.setl_program.specs.declared.kinds.Taking.{Taking}
use Rattle.setl_program.specs.Program.{Slots, Binding, Expr, Undefined, Exprs, Selectors, Place, Stmt, Assign, Update, AssignParts, TakeFrom, Perform, If, For, While, Quit, Continue, Fail, Succeed, Stop, Pass, Return, Print, Read, Block, no_stmt, more_stmts}
use Rattle.setl_program.specs.Lists.{exprs_of, iterators_of, condition_of, all_selectors, block_of, otherwise}
use Rattle.setl_program.specs.Scope.{Scope, variable_of, slot_variable, procedure_of}
use Rattle.setl_program.specs.Expressions as q
use Rattle.setl_program.specs.Statements as qs
use Rattle.setl_code_few.proofs.Sizes.{selectors_size, stmt_size, block_size}
use Rattle.setl_code_few.proofs.Languages.{Each, Maybe}
use Rattle.setl_code_few.proofs.Parts.{Sized, Sizes, SizedOption, SizedTurns, PartIn, TurnIn, terms_in, optional_in, iterators_in}
use Rattle.setl_code_few.proofs.Selections.{BehindIn, call_in}

-- ---- sizes

pub record SizedStmt (x : Stmt) (n : ℕ) : Type 0 where
  pub at_most : stmt_size x ≤ n

pub record SizedBlock (x : Block) (n : ℕ) : Type 0 where
  pub at_most : block_size x ≤ n

pub record SizedStmts (xs : List (ℕ × Stmt)) (n : ℕ) : Type 0 where
  pub at_most : block_size (block_of xs) ≤ n

pub record SizedPlace (ss : Selectors) (n : ℕ) : Type 0 where
  pub at_most : selectors_size ss ≤ n

-- a branch, before what follows it
pub record BranchIn (f : Block → Block) (n : ℕ) : Type 0 where
  pub before : (rest : Block) → block_size (f rest) ≤ n + block_size rest

-- a sum of what stands before and behind
before_and_behind : (a b c i j n : ℕ) → a ≤ i + b → b ≤ j + c → i + j ≤ n → a ≤ n + c
before_and_behind a b c i j n here later both = omega (arith, here, later, both)

stmt_within : {x : Stmt} {m n : ℕ} → SizedStmt x m → m ≤ n → SizedStmt x n
stmt_within h le = let less = h.at_most in record { at_most = omega (arith, less, le) }

sized_assign : {p : Place} {e : Expr} {i j n : ℕ} → selectors_size p.selectors ≤ i → Sized e j → suc (i + j) ≤ n → SizedStmt (Assign p e) n
sized_assign place h le = let value = h.at_most in record { at_most = omega (arith, place, value, le) }

sized_update : {o : Operator} {p : Place} {e : Expr} {i j n : ℕ} → selectors_size p.selectors ≤ i → Sized e j → suc (i + j) ≤ n → SizedStmt (Update o p e) n
sized_update place h le = let value = h.at_most in record { at_most = omega (arith, place, value, le) }

sized_parts : {xs : Slots} {e : Expr} {i j n : ℕ} → length xs ≤ i → Sized e j → suc (i + j) ≤ n → SizedStmt (AssignParts xs e) n
sized_parts all h le = let value = h.at_most in record { at_most = omega (arith, all, value, le) }

sized_taking : {k : Taking} {x : Variable} {p : Place} {i n : ℕ} → selectors_size p.selectors ≤ i → suc (suc i) ≤ n → SizedStmt (TakeFrom k x p) n
sized_taking place le = record { at_most = omega (arith, place, le) }

sized_perform : {e : Expr} {i n : ℕ} → Sized e i → suc i ≤ n → SizedStmt (Perform e) n
sized_perform h le = let value = h.at_most in record { at_most = omega (arith, value, le) }

sized_if : {e : Expr} {a b : Block} {i j k n : ℕ} → Sized e i → block_size a ≤ j → block_size b ≤ k → suc (i + (j + k)) ≤ n → SizedStmt (If e a b) n
sized_if h here later le = let test = h.at_most in record { at_most = omega (arith, test, here, later, le) }

sized_for : {is : List (Binding × Exprs)} {t : Option Expr} {b : Block} {i j k n : ℕ} → SizedTurns is i → SizedOption t j → block_size b ≤ k → suc (i + (j + k)) ≤ n → SizedStmt (For (iterators_of is) (condition_of t) b) n
sized_for g h body le =
    let over = g.at_most in
    let condition = h.at_most in
    record { at_most = omega (arith, over, condition, body, le) }

sized_while : {e : Expr} {b : Block} {i j n : ℕ} → Sized e i → block_size b ≤ j → suc (i + j) ≤ n → SizedStmt (While e b) n
sized_while h body le = let test = h.at_most in record { at_most = omega (arith, test, body, le) }

sized_return : {e : Expr} {i n : ℕ} → Sized e i → suc i ≤ n → SizedStmt (Return e) n
sized_return h le = let value = h.at_most in record { at_most = omega (arith, value, le) }

sized_print : {es : List Expr} {i n : ℕ} → Sizes es i → suc i ≤ n → SizedStmt (Print (exprs_of es)) n
sized_print h le = let all = h.at_most in record { at_most = omega (arith, all, le) }

sized_read : {xs : List Variable} {i n : ℕ} → length xs ≤ i → suc i ≤ n → SizedStmt (Read xs) n
sized_read all le = record { at_most = omega (arith, all, le) }

undefined_sized : Sized Undefined 1
undefined_sized = record { at_most = omega arith }

-- ---- parts

pub record KindIn (x : qs.Kind) (n : ℕ) : Type 0 where
  pub at : (line : ℕ) (s : Scope) (m : ℕ) → SizedStmt (x line s m).0 n

pub kind_within : {x : qs.Kind} {m n : ℕ} → KindIn x m → m ≤ n → KindIn x n
kind_within h le = record { at = λ line s k. let less = (h.at line s k).at_most in record { at_most = omega (arith, less, le) } }

pub record LinedIn (x : qs.Lined) (n : ℕ) : Type 0 where
  pub at : (s : Scope) (m : ℕ) → SizedStmt (x s m).0.1 n

-- a condition, a token and the statements that it guards
pub record GuardedIn (x : qs.Guarded) (n : ℕ) : Type 0 where
  pub one : ℕ
  pub two : ℕ
  pub fits : suc (one + two) ≤ n
  pub test : PartIn x.test one
  pub body : Each LinedIn x.body two

-- ---- blocks

no_stmts : {n : ℕ} → SizedStmts [] n
no_stmts = record { at_most = omega arith }

more_of : {x : ℕ × Stmt} {xs : List (ℕ × Stmt)} {i j n : ℕ} → SizedStmt x.1 i → SizedStmts xs j → i + j ≤ n → SizedStmts (x ∷ xs) n
more_of g h le =
    let here = g.at_most in
    let later = h.at_most in
    record { at_most = omega (arith, here, later, le) }

pub statements_in : (xs : List qs.Lined) (n : ℕ) → Each LinedIn xs n → (s : Scope) (m : ℕ) → SizedStmts (qs.statements xs s m).0 n
statements_in [] n h s m = no_stmts
statements_in (x ∷ xs) n h s m = more_of (h.first.at s m) (statements_in xs h.two h.second s _) h.fits

pub body_in : (xs : List qs.Lined) (n : ℕ) → Each LinedIn xs n → (s : Scope) (m : ℕ) → block_size (block_of (qs.statements xs s m).0) ≤ n
body_in xs n h s m = (statements_in xs n h s m).at_most

optional_block_in : (x : Option (List qs.Lined)) (n : ℕ) → Maybe (Each LinedIn) x n → (s : Scope) (m : ℕ) → SizedStmts (qs.optional_block x s m).0 n
optional_block_in None n h s m = no_stmts
optional_block_in (Some xs) n h s m = statements_in xs n h s m

-- ---- places

selectors_before : (bs : List q.Behind) (n : ℕ) → Each BehindIn bs n → (s : Scope) (m : ℕ) → selectors_size (all_selectors (qs.selectors bs s m).0) ≤ n + 0
selectors_before [] n h s m = omega arith
selectors_before (b ∷ bs) n h s m =
    before_and_behind _ _ 0 h.one h.two n ((h.first.selector s m).before (all_selectors (qs.selectors bs s (b.selector s m).1).0)) (selectors_before bs h.two h.second s (b.selector s m).1) h.fits

without_zero : {a n : ℕ} → a ≤ n + 0 → a ≤ n
without_zero h = omega (arith, h)

-- a place without its name
place_in : (t : Target) (n : ℕ) → Each BehindIn (map q.behind_of t.selectors) n → (s : Scope) (m : ℕ) → selectors_size (qs.place t s m).0.selectors ≤ n
place_in t n h s m = without_zero (selectors_before (map q.behind_of t.selectors) n h s m)

-- ---- each kind of statement

pub assignment_in : (t : Target) (x : q.Part) (i : ℕ) {j n : ℕ} → Each BehindIn (map q.behind_of t.selectors) i → PartIn x j → suc (i + j) ≤ n → KindIn (λ line. qs.assignment t x) n
assignment_in t x i g h le = record { at = λ line s m. sized_assign (place_in t i g s m) (h.term s _) le }

pub update_in : (t : Target) (f : BinaryOp) (x : q.Part) (i : ℕ) {j n : ℕ} → Each BehindIn (map q.behind_of t.selectors) i → PartIn x j → suc (i + j) ≤ n → KindIn (λ line. qs.update t f x) n
update_in t f x i g h le = record { at = λ line s m. sized_update (place_in t i g s m) (h.term s _) le }

slots_same : (v : Word → Variable) (slots : List Slot) → length (map (slot_variable v) slots) ≤ length slots
slots_same v [] = omega arith
slots_same v (x ∷ slots) = let later = slots_same v slots in omega (arith, later)

pub parts_in : (slots : List Slot) (x : q.Part) {j n : ℕ} → PartIn x j → suc (length slots + j) ≤ n → KindIn (λ line. qs.parts_assignment slots x) n
parts_in slots x h le = record { at = λ line s m. sized_parts (slots_same (variable_of s) slots) (h.term s m) le }

pub taking_in : (y : Word) (end : FromEnd) (t : Target) {i n : ℕ} → Each BehindIn (map q.behind_of t.selectors) i → suc (suc i) ≤ n → KindIn (λ line. qs.taking_from y end t) n
taking_in y end t {i} g le = record { at = λ line s m. sized_taking (place_in t i g s m) le }

called_in : (found : Option (ℕ × List Param)) (xs : List q.Part) {i n : ℕ} → Each PartIn xs i → suc (suc i) ≤ n → (s : Scope) (m : ℕ) → SizedStmt (qs.called found xs s m).0 n
called_in None xs h le s m = sized_perform undefined_sized (omega (arith, le))
called_in (Some p) xs {i} h le s m = sized_perform (call_in p.0 p.1 xs i h s m) le

pub performance_in : (f : Word) (xs : List q.Part) {i n : ℕ} → Each PartIn xs i → suc (suc i) ≤ n → KindIn (λ line. qs.performance f xs) n
performance_in f xs h le = record { at = λ line s m. called_in (procedure_of s f) xs h le s m }

-- ---- branches

branch_before : (line : ℕ) (e : Expr) (a rest : Block) {i j n : ℕ} → Sized e i → block_size a ≤ j → suc (i + j) ≤ n → block_size (more_stmts line (If e a rest) no_stmt) ≤ n + block_size rest
branch_before line e a rest h body le = let test = h.at_most in omega (arith, test, body, le)

guarded_in : (line : ℕ) (g : qs.Guarded) {n : ℕ} → GuardedIn g n → (s : Scope) (m : ℕ) → BranchIn (qs.guarded line g s m).0 n
guarded_in line g h s m = record {
  before = λ rest. branch_before line (g.test.term s m).0 (block_of (qs.statements g.body s (g.test.term s m).1).0) rest (h.test.term s m) (body_in g.body h.two h.body s _) h.fits;
}

otherwise_in : (line : ℕ) (gs : List qs.Guarded) (n : ℕ) → Each GuardedIn gs n → (s : Scope) (m : ℕ) (last : Block) → block_size (otherwise (qs.branches line gs s m).0 last) ≤ n + block_size last
otherwise_in line [] n h s m last = omega arith
otherwise_in line (g ∷ gs) n h s m last =
    let next = (qs.guarded line g s m).1 in
    before_and_behind _ _ (block_size last) h.one h.two n ((guarded_in line g h.first s m).before (otherwise (qs.branches line gs s next).0 last)) (otherwise_in line gs h.two h.second s next last) h.fits

joined_within : (a b j k : ℕ) → a ≤ j + b → b ≤ k → a ≤ j + k
joined_within a b j k h g = omega (arith, h, g)

pub choice_in : (g : qs.Guarded) (gs : List qs.Guarded) (y : Option (List qs.Lined)) (j k : ℕ) {i n : ℕ} → GuardedIn g i → Each GuardedIn gs j → Maybe (Each LinedIn) y k → i + (j + k) ≤ n → KindIn (λ line. qs.choice line g gs y) n
choice_in g gs y j k {i} {n} f h l le = record {
  at = λ line s m.
      let first_end = (qs.statements g.body s (g.test.term s m).1).1 in
      let last = (qs.optional_block y s (qs.branches line gs s first_end).1).0 in
      let fits = f.fits in
      let enough : suc (f.one + (f.two + (j + k))) ≤ n = omega (arith, fits, le) in
      sized_if (f.test.term s m) (body_in g.body f.two f.body s _) (joined_within _ (block_size (block_of last)) j k (otherwise_in line gs j h s first_end (block_of last)) (optional_block_in y k l s _).at_most) enough;
}

-- ---- loops

pub for_in : (ts : List q.Turn) (y : Option q.Part) (xs : List qs.Lined) (i j k : ℕ) {n : ℕ} → Each TurnIn ts i → Maybe PartIn y j → Each LinedIn xs k → suc (i + (j + k)) ≤ n → KindIn (λ line. qs.for_loop ts y xs) n
for_in ts y xs i j k f g h le = record { at = λ line s m. sized_for (iterators_in ts i f s m) (optional_in y j g s _) (body_in xs k h s _) le }

pub while_in : (x : q.Part) (xs : List qs.Lined) (j : ℕ) {i n : ℕ} → PartIn x i → Each LinedIn xs j → suc (i + j) ≤ n → KindIn (λ line. qs.while_loop x xs) n
while_in x xs j g h le = record { at = λ line s m. sized_while (g.term s m) (body_in xs j h s _) le }

-- ---- statements of one word, and the others

pub quit_in : {n : ℕ} → 1 ≤ n → KindIn (λ line s m. (Quit, m)) n
quit_in le = record { at = λ line s m. record { at_most = le } }

pub continue_in : {n : ℕ} → 1 ≤ n → KindIn (λ line s m. (Continue, m)) n
continue_in le = record { at = λ line s m. record { at_most = le } }

pub fail_in : {n : ℕ} → 1 ≤ n → KindIn (λ line s m. (Fail, m)) n
fail_in le = record { at = λ line s m. record { at_most = le } }

pub succeed_in : {n : ℕ} → 1 ≤ n → KindIn (λ line s m. (Succeed, m)) n
succeed_in le = record { at = λ line s m. record { at_most = le } }

pub stop_in : {n : ℕ} → 1 ≤ n → KindIn (λ line s m. (Stop, m)) n
stop_in le = record { at = λ line s m. record { at_most = le } }

pub pass_in : {n : ℕ} → 1 ≤ n → KindIn (λ line s m. (Pass, m)) n
pass_in le = record { at = λ line s m. record { at_most = le } }

pub return_in : (y : Option q.Part) {j n : ℕ} → Maybe PartIn y j → suc j ≤ n → 2 ≤ n → KindIn (λ line. qs.return_of y) n
return_in None h le some = record { at = λ line s m. sized_return undefined_sized some }
return_in (Some x) h le some = record { at = λ line s m. sized_return (h.term s m) le }

pub print_in : (xs : List q.Part) {j n : ℕ} → Each PartIn xs j → suc j ≤ n → KindIn (λ line. qs.print_of xs) n
print_in xs {j} h le = record { at = λ line s m. sized_print (terms_in xs j h s m) le }

names_same : (v : Word → Variable) (xs : List Word) → length (map v xs) ≤ length xs
names_same v [] = omega arith
names_same v (x ∷ xs) = let later = names_same v xs in omega (arith, later)

pub read_in : (xs : List Word) {n : ℕ} → suc (length xs) ≤ n → KindIn (λ line. qs.read_of xs) n
read_in xs le = record { at = λ line s m. sized_read (names_same (variable_of s) xs) le }
