-- The conditions of a program, in the order of its parts.
use Rattle.std.specs.Prelude.{ℕ, zero, suc, List, [], ◌∷◌, ◌++◌, slice_get, Option, Some, None}
use Rattle.setl_model_runs.specs.Variable.{Variable}
use Rattle.setl_program.specs.Program.{Slots, Binding, Member as MemberOf, Components, Point, begin_of, Expr, Literal, Undefined, Name, Apply, Connect, Choose, Former, Selection, Quantified, Call, Newat, Eof, Ok, Exprs, no_expr, more_exprs, Iterators, no_iterator, more_iterators, Condition as Test, no_condition, only_if, Arguments, no_argument, rd_argument, wr_argument, rw_argument, Selectors, no_selector, round_selector, brace_selector, Stmt, Assign, Update, AssignParts, TakeFrom, Perform, If, For, While, Quit, Continue, Fail, Succeed, Stop, Pass, Return, Print, Read, Block, no_stmt, more_stmts, Parameter, Procedure, Program}
use Rattle.setl_model.specs.Calls.{parameter}
use Rattle.setl_advise_conditions.specs.Conditions.{Term, Anything, Unset, Held, Value, Component, Member, MemberComponent, Argument, Image, Assigned, Updated, Taken, Remaining, Into, ResultOf, Condition}

abbrev pub stored : Variable → Term → Condition
stored x t = record { target = Into x; term = t }

-- each named part of a pattern gets this
abbrev pub slot_conditions : Term → Slots → List Condition
slot_conditions t [] = []
slot_conditions t (None ∷ xs) = slot_conditions t xs
slot_conditions t (Some x ∷ xs) = stored x t ∷ slot_conditions t xs

-- what an iterator binds, by its source
abbrev pub binding_conditions : Binding → Exprs → List Condition
binding_conditions (MemberOf k x) es = stored x (Member (begin_of (MemberOf k x)) es) ∷ []
binding_conditions (Components k xs) es = slot_conditions (MemberComponent (begin_of (Components k xs)) es) xs
binding_conditions (Point y x) es = stored x (Argument (begin_of (Point y x)) es) ∷ stored y (Image (begin_of (Point y x)) es) ∷ []

-- what is passed to the parameters of a body, and handed back
abbrev pub passed_conditions : (body : ℕ) → List Parameter → Arguments → List Condition
passed_conditions body [] all = []
passed_conditions body (p ∷ ps) no_argument = []
passed_conditions body (p ∷ ps) (rd_argument e rest) = stored (parameter body p) (Value e) ∷ passed_conditions body ps rest
passed_conditions body (p ∷ ps) (wr_argument x rest) = stored (parameter body p) Unset ∷ stored x (Held (parameter body p)) ∷ passed_conditions body ps rest
passed_conditions body (p ∷ ps) (rw_argument x rest) = stored (parameter body p) (Held x) ∷ stored x (Held (parameter body p)) ∷ passed_conditions body ps rest

-- those of a call, where the procedure is there
abbrev pub call_conditions : (body : ℕ) → Option Procedure → Arguments → List Condition
call_conditions body None all = []
call_conditions body (Some q) all = passed_conditions body q.parameters all

module _ (procedures : List Procedure) where
  abbrev mutual
    pub expr_conditions : Expr → List Condition
    expr_conditions (Literal d) = []
    expr_conditions Undefined = []
    expr_conditions (Name x) = []
    expr_conditions (Apply o es) = exprs_conditions es
    expr_conditions (Connect k a b) = expr_conditions a ++ expr_conditions b
    expr_conditions (Choose t a b) = expr_conditions t ++ expr_conditions a ++ expr_conditions b
    expr_conditions (Former k e is t) = expr_conditions e ++ iterators_conditions is ++ test_conditions t
    expr_conditions (Selection k b es t) = (binding_conditions b es ++ exprs_conditions es) ++ expr_conditions t
    expr_conditions (Quantified q is t) = iterators_conditions is ++ expr_conditions t
    expr_conditions (Call f all) = call_conditions (suc f) (slice_get procedures f) all ++ arguments_conditions all
    expr_conditions Newat = []
    expr_conditions Eof = []
    expr_conditions Ok = []

    pub exprs_conditions : Exprs → List Condition
    exprs_conditions no_expr = []
    exprs_conditions (more_exprs e rest) = expr_conditions e ++ exprs_conditions rest

    pub iterators_conditions : Iterators → List Condition
    iterators_conditions no_iterator = []
    iterators_conditions (more_iterators b es rest) = (binding_conditions b es ++ exprs_conditions es) ++ iterators_conditions rest

    pub test_conditions : Test → List Condition
    test_conditions no_condition = []
    test_conditions (only_if e) = expr_conditions e

    pub arguments_conditions : Arguments → List Condition
    arguments_conditions no_argument = []
    arguments_conditions (rd_argument e rest) = expr_conditions e ++ arguments_conditions rest
    arguments_conditions (wr_argument x rest) = arguments_conditions rest
    arguments_conditions (rw_argument x rest) = arguments_conditions rest

  abbrev pub selectors_conditions : Selectors → List Condition
  selectors_conditions no_selector = []
  selectors_conditions (round_selector e rest) = expr_conditions e ++ selectors_conditions rest
  selectors_conditions (brace_selector e rest) = expr_conditions e ++ selectors_conditions rest

  abbrev pub read_conditions : List Variable → List Condition
  read_conditions [] = []
  read_conditions (x ∷ xs) = stored x Anything ∷ read_conditions xs

  -- what is returned by a body; the main program, of number 0, returns nothing
  abbrev pub return_conditions : (body : ℕ) → Expr → List Condition
  return_conditions zero e = []
  return_conditions (suc f) e = record { target = ResultOf f; term = Value e } ∷ []

  abbrev mutual
    pub stmt_conditions : (body : ℕ) → Stmt → List Condition
    stmt_conditions n (Assign l e) = stored l.variable (Assigned l e) ∷ selectors_conditions l.selectors ++ expr_conditions e
    stmt_conditions n (Update o l e) = stored l.variable (Updated o l e) ∷ selectors_conditions l.selectors ++ expr_conditions e
    stmt_conditions n (AssignParts xs e) = slot_conditions (Component e) xs ++ expr_conditions e
    stmt_conditions n (TakeFrom k x l) = stored x (Taken l) ∷ stored l.variable (Remaining l) ∷ selectors_conditions l.selectors
    stmt_conditions n (Perform e) = expr_conditions e
    stmt_conditions n (If e a b) = expr_conditions e ++ block_conditions n a ++ block_conditions n b
    stmt_conditions n (For is t b) = iterators_conditions is ++ test_conditions t ++ block_conditions n b
    stmt_conditions n (While e b) = expr_conditions e ++ block_conditions n b
    stmt_conditions n Quit = []
    stmt_conditions n Continue = []
    stmt_conditions n Fail = []
    stmt_conditions n Succeed = []
    stmt_conditions n Stop = []
    stmt_conditions n Pass = []
    stmt_conditions n (Return e) = return_conditions n e ++ expr_conditions e
    stmt_conditions n (Print es) = exprs_conditions es
    stmt_conditions n (Read xs) = read_conditions xs

    pub block_conditions : (body : ℕ) → Block → List Condition
    block_conditions n no_stmt = []
    block_conditions n (more_stmts line a rest) = stmt_conditions n a ++ block_conditions n rest

  -- those of the bodies of procedures, the first of which has this number
  abbrev pub procedures_conditions : ℕ → List Procedure → List Condition
  procedures_conditions n [] = []
  procedures_conditions n (q ∷ qs) = block_conditions n q.body ++ procedures_conditions (suc n) qs

-- the conditions of a program
abbrev pub conditions_of : Program → List Condition
conditions_of p = block_conditions p.procedures 0 p.main ++ procedures_conditions p.procedures 1 p.procedures
