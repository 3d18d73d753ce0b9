-- The lists of a program from plain lists of their members.
use Rattle.std.specs.Prelude.{ℕ, List, [], ◌∷◌, Option, Some, None}
use Rattle.setl_program.specs.Program.{Binding, Expr, Exprs, no_expr, more_exprs, Iterators, no_iterator, more_iterators, Condition, no_condition, only_if, Arguments, no_argument, Selectors, no_selector, Stmt, Block, no_stmt, more_stmts}

abbrev pub exprs_of : List Expr → Exprs
exprs_of [] = no_expr
exprs_of (e ∷ es) = more_exprs e (exprs_of es)

-- an expression with links behind it, each as what it makes of what stands before it
abbrev pub chained : Expr → List (Expr → Expr) → Expr
chained e [] = e
chained e (l ∷ ls) = chained (l e) ls

abbrev pub iterators_of : List (Binding × Exprs) → Iterators
iterators_of [] = no_iterator
iterators_of (i ∷ is) = more_iterators i.0 i.1 (iterators_of is)

abbrev pub condition_of : Option Expr → Condition
condition_of None = no_condition
condition_of (Some e) = only_if e

-- arguments in their order, each as what it puts before the others
abbrev pub arguments_of : List (Arguments → Arguments) → Arguments
arguments_of [] = no_argument
arguments_of (a ∷ as_) = a (arguments_of as_)

-- selectors in their order, each as what it puts before the others
abbrev pub all_selectors : List (Selectors → Selectors) → Selectors
all_selectors [] = no_selector
all_selectors (x ∷ xs) = x (all_selectors xs)

abbrev pub block_of : List (ℕ × Stmt) → Block
block_of [] = no_stmt
block_of (s ∷ ss) = more_stmts s.0 s.1 (block_of ss)

-- what stands behind the `else` of an `if` with these `elseif` branches, each as what it puts before the others
abbrev pub otherwise : List (Block → Block) → Block → Block
otherwise [] last = last
otherwise (b ∷ bs) last = b (otherwise bs last)
