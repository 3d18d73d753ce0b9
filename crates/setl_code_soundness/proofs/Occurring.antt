-- The variables that stand in a formed body are of that body, or of the whole program.
use Rattle.std.proofs.Common.{Bool, List, [], ◌∷◌, ◌++◌, Some, None}
use Rattle.setl_model_runs.specs.Variable.{Variable}
use Rattle.setl_program.specs.Program.{Slots, Binding, Member, Components, Point, Expr, Literal, Undefined, Name, Apply, Connect, Choose, Former, Selection, Quantified, Call, Newat, Eof, Ok, Exprs, no_expr, more_exprs, Iterators, no_iterator, more_iterators, Condition, no_condition, only_if, Arguments, no_argument, rd_argument, wr_argument, rw_argument, Selectors, no_selector, round_selector, brace_selector, Stmt, Assign, Update, AssignParts, TakeFrom, Perform, If, For, While, Quit, Continue, Fail, Succeed, Stop, Pass, Return, Print, Read, Block, no_stmt, more_stmts}
use Rattle.setl_program.specs.Formed.{Around, FormedVariable, FormedSlots, FormedBinding, FormedExpr, FormedExprs, FormedIterators, FormedCondition, FormedArguments, FormedSelectors, FormedVariables, FormedStmt, FormedBlock}
use Rattle.setl_model.specs.Slots.{variables_in}
use Rattle.setl_code.specs.Names.{around, in_expr, in_exprs, in_iterators, in_condition, in_arguments, in_selectors, in_stmt, in_block}
use Rattle.setl_code_soundness.proofs.Uses.{Each_of, joined}

module _ (a : Around) where
  abbrev Mine : Variable → Type 0
  Mine x = FormedVariable a.body x

  in_slots : (xs : Slots) → FormedSlots a.body xs → Each_of Mine (variables_in xs)
  in_slots [] h = tt
  in_slots (None ∷ xs) h = in_slots xs h
  in_slots (Some x ∷ xs) h = (h.0, in_slots xs h.1)

  in_binding : (b : Binding) (source : List Variable) → FormedBinding a.body b → Each_of Mine source → Each_of Mine (around b source)
  in_binding (Member k x) source h s = (h, s)
  in_binding (Components k xs) source h s = joined Mine (variables_in xs) source (in_slots xs h) s
  in_binding (Point y x) source h s = joined Mine (y ∷ source) (x ∷ []) (h.0, s) (h.1, tt)

  mutual
    of_expr : (e : Expr) → FormedExpr a e → Each_of Mine (in_expr e)
    of_expr (Literal d) f = tt
    of_expr Undefined f = tt
    of_expr (Name x) f = (f, tt)
    of_expr (Apply o es) f = of_exprs es f
    of_expr (Connect k x y) f = joined Mine (in_expr x) (in_expr y) (of_expr x f.0) (of_expr y f.1)
    of_expr (Choose t x y) f = joined Mine (in_expr t ++ in_expr x) (in_expr y) (joined Mine (in_expr t) (in_expr x) (of_expr t f.0) (of_expr x f.1)) (of_expr y f.2)
    of_expr (Former k e is t) f =
        joined Mine (in_expr e ++ in_iterators is) (in_condition t) (joined Mine (in_expr e) (in_iterators is) (of_expr e f.1) (of_iterators is f.2)) (of_condition t f.3)
    of_expr (Selection k b es c) f = joined Mine (around b (in_exprs es)) (in_expr c) (in_binding b (in_exprs es) f.1 (of_exprs es f.2)) (of_expr c f.4)
    of_expr (Quantified q is c) f = joined Mine (in_iterators is) (in_expr c) (of_iterators is f.1) (of_expr c f.2)
    of_expr (Call p all) f = of_arguments all f.1
    of_expr Newat f = tt
    of_expr Eof f = tt
    of_expr Ok f = tt

    of_exprs : (es : Exprs) → FormedExprs a es → Each_of Mine (in_exprs es)
    of_exprs no_expr f = tt
    of_exprs (more_exprs e rest) f = joined Mine (in_expr e) (in_exprs rest) (of_expr e f.0) (of_exprs rest f.1)

    of_iterators : (is : Iterators) → FormedIterators a is → Each_of Mine (in_iterators is)
    of_iterators no_iterator f = tt
    of_iterators (more_iterators b es rest) f = joined Mine (around b (in_exprs es)) (in_iterators rest) (in_binding b (in_exprs es) f.0 (of_exprs es f.1)) (of_iterators rest f.3)

    of_condition : (t : Condition) → FormedCondition a t → Each_of Mine (in_condition t)
    of_condition no_condition f = tt
    of_condition (only_if c) f = of_expr c f

    of_arguments : (all : Arguments) → FormedArguments a all → Each_of Mine (in_arguments all)
    of_arguments no_argument f = tt
    of_arguments (rd_argument e rest) f = joined Mine (in_expr e) (in_arguments rest) (of_expr e f.0) (of_arguments rest f.1)
    of_arguments (wr_argument x rest) f = (f.0, of_arguments rest f.1)
    of_arguments (rw_argument x rest) f = (f.0, of_arguments rest f.1)

  of_selectors : (ss : Selectors) → FormedSelectors a ss → Each_of Mine (in_selectors ss)
  of_selectors no_selector f = tt
  of_selectors (round_selector e rest) f = joined Mine (in_expr e) (in_selectors rest) (of_expr e f.0) (of_selectors rest f.1)
  of_selectors (brace_selector e rest) f = joined Mine (in_expr e) (in_selectors rest) (of_expr e f.0) (of_selectors rest f.1)

  of_variables : (xs : List Variable) → FormedVariables a.body xs → Each_of Mine xs
  of_variables [] f = tt
  of_variables (x ∷ xs) f = (f.0, of_variables xs f.1)

  mutual
    of_stmt : (st : Stmt) (l : Bool) → FormedStmt a l st → Each_of Mine (in_stmt st)
    of_stmt (Assign p e) l f = joined Mine (p.variable ∷ in_selectors p.selectors) (in_expr e) (f.0, of_selectors p.selectors f.1) (of_expr e f.2)
    of_stmt (Update o p e) l f = joined Mine (p.variable ∷ in_selectors p.selectors) (in_expr e) (f.0, of_selectors p.selectors f.1) (of_expr e f.2)
    of_stmt (AssignParts xs e) l f = joined Mine (variables_in xs) (in_expr e) (in_slots xs f.0) (of_expr e f.1)
    of_stmt (TakeFrom k x p) l f = (f.0, (f.1, of_selectors p.selectors f.2))
    of_stmt (Perform e) l f = of_expr e f
    of_stmt (If e x y) l f = joined Mine (in_expr e ++ in_block x) (in_block y) (joined Mine (in_expr e) (in_block x) (of_expr e f.0) (of_block x l f.1)) (of_block y l f.2)
    of_stmt (For is t x) l f = joined Mine (in_iterators is ++ in_condition t) (in_block x) (joined Mine (in_iterators is) (in_condition t) (of_iterators is f.1) (of_condition t f.2)) (of_block x _ f.3)
    of_stmt (While e x) l f = joined Mine (in_expr e) (in_block x) (of_expr e f.0) (of_block x _ f.1)
    of_stmt Quit l f = tt
    of_stmt Continue l f = tt
    of_stmt Fail l f = tt
    of_stmt Succeed l f = tt
    of_stmt Stop l f = tt
    of_stmt Pass l f = tt
    of_stmt (Return e) l f = of_expr e f.1
    of_stmt (Print es) l f = of_exprs es f
    of_stmt (Read xs) l f = of_variables xs f

    pub of_block : (b : Block) (l : Bool) → FormedBlock a l b → Each_of Mine (in_block b)
    of_block no_stmt l f = tt
    of_block (more_stmts line st rest) l f = joined Mine (in_stmt st) (in_block rest) (of_stmt st l f.0) (of_block rest l f.1)
