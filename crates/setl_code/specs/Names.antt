-- The variables of a body in the order of their first appearance.
use Rattle.std.specs.Prelude.{ℕ, Bool, true, false, List, [], ◌∷◌, ◌++◌, cond, bytes_eq}
use Rattle.std.specs.List.{list_any}
use Rattle.setl_model.specs.Slots.{variables_in}
use Rattle.setl_model_runs.specs.Variable.{Variable, Global, Own, Bound, is_variable}
use Rattle.setl_program.specs.Program.{Binding, Member, Components, Point, Expr, Literal, Undefined, Name, Apply, Connect, Choose, Former, Selection, Quantified, Call, Newat, Eof, Ok, Exprs, no_expr, more_exprs, Iterators, no_iterator, more_iterators, Condition, no_condition, only_if, Arguments, no_argument, rd_argument, wr_argument, rw_argument, Selectors, no_selector, round_selector, brace_selector, Place, Stmt, Assign, Update, AssignParts, TakeFrom, Perform, If, For, While, Quit, Continue, Fail, Succeed, Stop, Pass, Return, Print, Read, Block, no_stmt, more_stmts, Parameter}

-- the variables around the source of an iterator: in `y = f(x)` one stands before f and one behind it
abbrev pub around : Binding → List Variable → List Variable
around (Member k x) source = x ∷ source
around (Components k xs) source = variables_in xs ++ source
around (Point y x) source = y ∷ source ++ x ∷ []

-- the variables as they stand in the source
abbrev mutual
  pub in_expr : Expr → List Variable
  in_expr (Literal d) = []
  in_expr Undefined = []
  in_expr (Name x) = x ∷ []
  in_expr (Apply o es) = in_exprs es
  in_expr (Connect k a b) = in_expr a ++ in_expr b
  in_expr (Choose t a b) = in_expr t ++ in_expr a ++ in_expr b
  in_expr (Former k e is t) = in_expr e ++ in_iterators is ++ in_condition t
  in_expr (Selection k b es c) = around b (in_exprs es) ++ in_expr c
  in_expr (Quantified q is c) = in_iterators is ++ in_expr c
  in_expr (Call f all) = in_arguments all
  in_expr Newat = []
  in_expr Eof = []
  in_expr Ok = []

  pub in_exprs : Exprs → List Variable
  in_exprs no_expr = []
  in_exprs (more_exprs e rest) = in_expr e ++ in_exprs rest

  pub in_iterators : Iterators → List Variable
  in_iterators no_iterator = []
  in_iterators (more_iterators b es rest) = around b (in_exprs es) ++ in_iterators rest

  pub in_condition : Condition → List Variable
  in_condition no_condition = []
  in_condition (only_if e) = in_expr e

  pub in_arguments : Arguments → List Variable
  in_arguments no_argument = []
  in_arguments (rd_argument e rest) = in_expr e ++ in_arguments rest
  in_arguments (wr_argument x rest) = x ∷ in_arguments rest
  in_arguments (rw_argument x rest) = x ∷ in_arguments rest

abbrev pub in_selectors : Selectors → List Variable
in_selectors no_selector = []
in_selectors (round_selector e rest) = in_expr e ++ in_selectors rest
in_selectors (brace_selector e rest) = in_expr e ++ in_selectors rest

abbrev pub in_place : Place → List Variable
in_place p = p.variable ∷ in_selectors p.selectors

abbrev mutual
  pub in_stmt : Stmt → List Variable
  in_stmt (Assign p e) = in_place p ++ in_expr e
  in_stmt (Update o p e) = in_place p ++ in_expr e
  in_stmt (AssignParts xs e) = variables_in xs ++ in_expr e
  in_stmt (TakeFrom k x p) = x ∷ in_place p
  in_stmt (Perform e) = in_expr e
  in_stmt (If e a b) = in_expr e ++ in_block a ++ in_block b
  in_stmt (For is t b) = in_iterators is ++ in_condition t ++ in_block b
  in_stmt (While e b) = in_expr e ++ in_block b
  in_stmt Quit = []
  in_stmt Continue = []
  in_stmt Fail = []
  in_stmt Succeed = []
  in_stmt Stop = []
  in_stmt Pass = []
  in_stmt (Return e) = in_expr e
  in_stmt (Print es) = in_exprs es
  in_stmt (Read xs) = xs

  pub in_block : Block → List Variable
  in_block no_stmt = []
  in_block (more_stmts line s rest) = in_stmt s ++ in_block rest

-- ---- own names

abbrev pub is_among : List Variable → Variable → Bool
is_among xs x = list_any (is_variable x) xs

abbrev pub is_parameter : List Parameter → List ℕ → Bool
is_parameter ps name = list_any (λ p. bytes_eq p.name name) ps

-- whether a variable is one of the body that is no parameter
abbrev pub is_own : List Parameter → Variable → Bool
is_own ps (Global name) = false
is_own ps (Own body name) = cond (is_parameter ps name) false true
is_own ps (Bound former name) = true

-- those behind some that are own ones and stand there for the first time
abbrev pub first_among : List Parameter → List Variable → List Variable → List Variable
first_among ps seen [] = []
first_among ps seen (x ∷ xs) =
    let rest = first_among ps seen xs in
    let new = x ∷ first_among ps (x ∷ seen) xs in
    cond (is_own ps x) (cond (is_among seen x) rest new) rest

-- the own names of a body without its parameters
abbrev pub own_names : List Parameter → Block → List Variable
own_names ps b = first_among ps [] (in_block b)
