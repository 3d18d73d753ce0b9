-- Programs in which each variable has a place, and each operator its operands.
use Rattle.std.specs.Prelude.{◌≡◌, ◌≤◌, true, false, List, [], ◌∷◌, map, Some, None}
use Rattle.setl_names.specs.Names.{Name as Word, has}
use Rattle.setl_model_runs.specs.Variable.{Variable, Global, Own, Bound}
use Rattle.setl_operators_table.specs.Operators.{operand_count, TakesOperands}
use Rattle.setl_program.specs.Program.{Slots, Binding, Member, Components, Point, Expr, Literal, Undefined, Name, Apply, Connect, Choose, Former, Selection, Quantified, Call, Newat, Eof, Ok, Exprs, no_expr, more_exprs, Iterators, no_iterator, more_iterators, Condition, no_condition, only_if, Arguments, no_argument, rd_argument, wr_argument, rw_argument, Selectors, no_selector, round_selector, brace_selector, Place, Stmt, Assign, Update, AssignParts, TakeFrom, Perform, If, For, While, Quit, Continue, Fail, Succeed, Stop, Pass, Return, Print, Read, Block, no_stmt, more_stmts, Procedure, Program}
use Rattle.setl_program.specs.Formed.{number_of}

-- no name stands twice
abbrev pub NamesDiffer : List Word → Type 0
NamesDiffer [] = Unit {0}
NamesDiffer (x ∷ xs) = (has xs x ≡ false) × NamesDiffer xs

module _ (vars : List Word) where
  -- a variable of the whole program stands in `var`, and formers are counted from 1
  abbrev pub PlacedVariable : Variable → Type 0
  PlacedVariable (Global name) = has vars name ≡ true
  PlacedVariable (Own body name) = Unit {0}
  PlacedVariable (Bound former name) = 1 ≤ former

  abbrev pub PlacedVariables : List Variable → Type 0
  PlacedVariables [] = Unit {0}
  PlacedVariables (x ∷ xs) = PlacedVariable x × PlacedVariables xs

  abbrev pub PlacedSlots : Slots → Type 0
  PlacedSlots [] = Unit {0}
  PlacedSlots (None ∷ xs) = PlacedSlots xs
  PlacedSlots (Some x ∷ xs) = PlacedVariable x × PlacedSlots xs

  abbrev pub PlacedBinding : Binding → Type 0
  PlacedBinding (Member k x) = PlacedVariable x
  PlacedBinding (Components k xs) = PlacedSlots xs
  PlacedBinding (Point y x) = PlacedVariable y × PlacedVariable x

  abbrev mutual
    pub PlacedExpr : Expr → Type 0
    PlacedExpr (Literal d) = Unit {0}
    PlacedExpr Undefined = Unit {0}
    PlacedExpr (Name x) = PlacedVariable x
    PlacedExpr (Apply o es) = TakesOperands o (number_of es) × PlacedExprs es
    PlacedExpr (Connect k x y) = PlacedExpr x × PlacedExpr y
    PlacedExpr (Choose t x y) = PlacedExpr t × PlacedExpr x × PlacedExpr y
    PlacedExpr (Former k e is t) = PlacedExpr e × PlacedIterators is × PlacedCondition t
    PlacedExpr (Selection k b es c) = PlacedBinding b × PlacedExprs es × PlacedExpr c
    PlacedExpr (Quantified q is c) = PlacedIterators is × PlacedExpr c
    PlacedExpr (Call f all) = PlacedArguments all
    PlacedExpr Newat = Unit {0}
    PlacedExpr Eof = Unit {0}
    PlacedExpr Ok = Unit {0}

    pub PlacedExprs : Exprs → Type 0
    PlacedExprs no_expr = Unit {0}
    PlacedExprs (more_exprs e rest) = PlacedExpr e × PlacedExprs rest

    pub PlacedIterators : Iterators → Type 0
    PlacedIterators no_iterator = Unit {0}
    PlacedIterators (more_iterators b es rest) = PlacedBinding b × PlacedExprs es × PlacedIterators rest

    pub PlacedCondition : Condition → Type 0
    PlacedCondition no_condition = Unit {0}
    PlacedCondition (only_if e) = PlacedExpr e

    pub PlacedArguments : Arguments → Type 0
    PlacedArguments no_argument = Unit {0}
    PlacedArguments (rd_argument e rest) = PlacedExpr e × PlacedArguments rest
    PlacedArguments (wr_argument x rest) = PlacedVariable x × PlacedArguments rest
    PlacedArguments (rw_argument x rest) = PlacedVariable x × PlacedArguments rest

  abbrev pub PlacedSelectors : Selectors → Type 0
  PlacedSelectors no_selector = Unit {0}
  PlacedSelectors (round_selector e rest) = PlacedExpr e × PlacedSelectors rest
  PlacedSelectors (brace_selector e rest) = PlacedExpr e × PlacedSelectors rest

  -- a place that is changed
  abbrev pub PlacedTarget : Place → Type 0
  PlacedTarget p = PlacedVariable p.variable × PlacedSelectors p.selectors

  abbrev mutual
    pub PlacedStmt : Stmt → Type 0
    PlacedStmt (Assign p e) = PlacedTarget p × PlacedExpr e
    PlacedStmt (Update o p e) = (operand_count o ≡ Some 2) × PlacedTarget p × PlacedExpr e
    PlacedStmt (AssignParts xs e) = PlacedSlots xs × PlacedExpr e
    PlacedStmt (TakeFrom k x p) = PlacedVariable x × PlacedTarget p
    PlacedStmt (Perform e) = PlacedExpr e
    PlacedStmt (If e x y) = PlacedExpr e × PlacedBlock x × PlacedBlock y
    PlacedStmt (For is t x) = PlacedIterators is × PlacedCondition t × PlacedBlock x
    PlacedStmt (While e x) = PlacedExpr e × PlacedBlock x
    PlacedStmt Quit = Unit {0}
    PlacedStmt Continue = Unit {0}
    PlacedStmt Fail = Unit {0}
    PlacedStmt Succeed = Unit {0}
    PlacedStmt Stop = Unit {0}
    PlacedStmt Pass = Unit {0}
    PlacedStmt (Return e) = PlacedExpr e
    PlacedStmt (Print es) = PlacedExprs es
    PlacedStmt (Read xs) = PlacedVariables xs

    pub PlacedBlock : Block → Type 0
    PlacedBlock no_stmt = Unit {0}
    PlacedBlock (more_stmts line s rest) = PlacedStmt s × PlacedBlock rest

  -- the names of the parameters of a procedure differ
  abbrev pub PlacedProcedures : List Procedure → Type 0
  PlacedProcedures [] = Unit {0}
  PlacedProcedures (p ∷ ps) = NamesDiffer (map (λ q. q.name) p.parameters) × PlacedBlock p.body × PlacedProcedures ps

-- each variable has a place, and each operator its operands
abbrev pub Placed : Program → Type 0
Placed p = NamesDiffer p.vars × PlacedBlock p.vars p.main × PlacedProcedures p.vars p.procedures
