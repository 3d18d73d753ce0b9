-- A body has at most as many own names as it is large.
use Rattle.std.proofs.Common.{◌≤◌, ℕ, suc, ◌+◌, Bool, true, false, cond, List, [], ◌∷◌, ◌++◌, length, length-append, arith}
use Rattle.setl_model_runs.specs.Variable.{Variable}
use Rattle.setl_program.specs.Program.{Binding, Member, Components, Point, Expr, Literal, Undefined, Name, Apply, Connect, Choose, Former, Selection, Quantified, Call, Newat, Eof, Ok, Exprs, no_expr, more_exprs, Iterators, no_iterator, more_iterators, Condition, no_condition, only_if, Arguments, no_argument, rd_argument, wr_argument, rw_argument, Selectors, no_selector, round_selector, brace_selector, Stmt, Assign, Update, AssignParts, TakeFrom, Perform, If, For, While, Quit, Continue, Fail, Succeed, Stop, Pass, Return, Print, Read, Block, no_stmt, more_stmts, Parameter}
use Rattle.setl_code.specs.Names.{around, in_expr, in_exprs, in_iterators, in_condition, in_arguments, in_selectors, in_stmt, in_block, is_among, is_own, first_among, own_names}
use Rattle.setl_code_few.proofs.Sizes.{binding_size, binds, size, sizes, inner, condition_size, passed, values, selectors_size, stmt_size, block_size}
use Rattle.setl_code_few.proofs.CodeExpressions.{variables_few}

-- at most so many
pub record Few (xs : List Variable) (n : ℕ) : Type 0 where
  pub at_most : length xs ≤ n

fits : {xs : List Variable} {m n : ℕ} → Few xs m → m ≤ n → Few xs n
fits h le = let less = h.at_most in record { at_most = omega (arith, less, le) }

f_none : Few [] 0
f_none = record { at_most = omega arith }

f_more : {x : Variable} {xs : List Variable} {n : ℕ} → Few xs n → Few (x ∷ xs) (suc n)
f_more h = let less = h.at_most in record { at_most = omega (arith, less) }

f_join : {xs ys : List Variable} {a b : ℕ} → Few xs a → Few ys b → Few (xs ++ ys) (a + b)
f_join {xs} {ys} g h =
    let one = g.at_most in
    let two = h.at_most in
    let both = length-append xs ys in
    record { at_most = omega (arith, one, two, both) }

around_few : (b : Binding) {source : List Variable} {n : ℕ} → Few source n → Few (around b source) (binding_size b + n)
around_few (Member k x) h = fits (f_more h) (omega arith)
around_few (Components k xs) h = fits (f_join (record { at_most = variables_few xs }) h) (omega arith)
around_few (Point y x) h = fits (f_more (f_join h (f_more f_none))) (omega arith)

mutual
  expr_few : (e : Expr) → Few (in_expr e) (size e)
  expr_few (Literal d) = fits f_none (omega arith)
  expr_few Undefined = fits f_none (omega arith)
  expr_few (Name x) = f_more f_none
  expr_few (Apply o es) = fits (exprs_few es) (omega arith)
  expr_few (Connect k a b) = fits (f_join (expr_few a) (expr_few b)) (omega arith)
  expr_few (Choose t a b) = fits (f_join (f_join (expr_few t) (expr_few a)) (expr_few b)) (omega arith)
  expr_few (Former k e is t) = fits (f_join (f_join (expr_few e) (iterators_few is)) (condition_few t)) (omega arith)
  expr_few (Selection k b es c) = fits (f_join (around_few b (exprs_few es)) (expr_few c)) (omega arith)
  expr_few (Quantified q is c) = fits (f_join (iterators_few is) (expr_few c)) (omega arith)
  expr_few (Call f all) = fits (arguments_few all) (omega arith)
  expr_few Newat = fits f_none (omega arith)
  expr_few Eof = fits f_none (omega arith)
  expr_few Ok = fits f_none (omega arith)

  exprs_few : (es : Exprs) → Few (in_exprs es) (sizes es)
  exprs_few no_expr = f_none
  exprs_few (more_exprs e rest) = f_join (expr_few e) (exprs_few rest)

  iterators_few : (is : Iterators) → Few (in_iterators is) (binds is + inner is)
  iterators_few no_iterator = f_none
  iterators_few (more_iterators b es rest) = fits (f_join (around_few b (exprs_few es)) (iterators_few rest)) (omega arith)

  condition_few : (t : Condition) → Few (in_condition t) (condition_size t)
  condition_few no_condition = f_none
  condition_few (only_if e) = expr_few e

  arguments_few : (all : Arguments) → Few (in_arguments all) (values all + passed all)
  arguments_few no_argument = f_none
  arguments_few (rd_argument e rest) = fits (f_join (expr_few e) (arguments_few rest)) (omega arith)
  arguments_few (wr_argument x rest) = fits (f_more (arguments_few rest)) (omega arith)
  arguments_few (rw_argument x rest) = fits (f_more (arguments_few rest)) (omega arith)

selectors_few : (ss : Selectors) → Few (in_selectors ss) (selectors_size ss)
selectors_few no_selector = f_none
selectors_few (round_selector e rest) = f_join (expr_few e) (selectors_few rest)
selectors_few (brace_selector e rest) = f_join (expr_few e) (selectors_few rest)

mutual
  stmt_few : (s : Stmt) → Few (in_stmt s) (stmt_size s)
  stmt_few (Assign p e) = fits (f_join (f_more (selectors_few p.selectors)) (expr_few e)) (omega arith)
  stmt_few (Update o p e) = fits (f_join (f_more (selectors_few p.selectors)) (expr_few e)) (omega arith)
  stmt_few (AssignParts xs e) = fits (f_join (record { at_most = variables_few xs }) (expr_few e)) (omega arith)
  stmt_few (TakeFrom k x p) = f_more (f_more (selectors_few p.selectors))
  stmt_few (Perform e) = fits (expr_few e) (omega arith)
  stmt_few (If e a b) = fits (f_join (f_join (expr_few e) (block_few a)) (block_few b)) (omega arith)
  stmt_few (For is t b) = fits (f_join (f_join (iterators_few is) (condition_few t)) (block_few b)) (omega arith)
  stmt_few (While e b) = fits (f_join (expr_few e) (block_few b)) (omega arith)
  stmt_few Quit = fits f_none (omega arith)
  stmt_few Continue = fits f_none (omega arith)
  stmt_few Fail = fits f_none (omega arith)
  stmt_few Succeed = fits f_none (omega arith)
  stmt_few Stop = fits f_none (omega arith)
  stmt_few Pass = fits f_none (omega arith)
  stmt_few (Return e) = fits (expr_few e) (omega arith)
  stmt_few (Print es) = fits (exprs_few es) (omega arith)
  stmt_few (Read xs) = record { at_most = omega arith }

  block_few : (b : Block) → Few (in_block b) (block_size b)
  block_few no_stmt = f_none
  block_few (more_stmts line s rest) = f_join (stmt_few s) (block_few rest)

first_few : (ps : List Parameter) (seen xs : List Variable) → length (first_among ps seen xs) ≤ length xs
first_few ps seen [] = omega arith
first_few ps seen (x ∷ xs) = by (is_own ps x) (is_among seen x) (first_few ps seen xs) (first_few ps (x ∷ seen) xs)
  where
    by : (own among : Bool) → length (first_among ps seen xs) ≤ length xs → length (first_among ps (x ∷ seen) xs) ≤ length xs →
        length (cond own (cond among (first_among ps seen xs) (x ∷ first_among ps (x ∷ seen) xs)) (first_among ps seen xs)) ≤ suc (length xs)
    by true true g h = omega (arith, g)
    by true false g h = omega (arith, h)
    by false among g h = omega (arith, g)

pub own_few : (ps : List Parameter) (b : Block) → length (own_names ps b) ≤ block_size b
own_few ps b =
    let some = first_few ps [] (in_block b) in
    let all = (block_few b).at_most in
    omega (arith, some, all)
