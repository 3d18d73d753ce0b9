-- Programs whose parts are of the kinds that they need: what the rules of names give, and what code is made for.
use Rattle.std.specs.Prelude.{◌≡◌, ℕ, zero, suc, Bool, true, false, List, [], ◌∷◌, slice_get, Option, Some, None}
use Rattle.setl_tree.specs.declared.tree.Passing.TheVariants.{Rd, Wr, Rw}
use Rattle.setl_model_runs.specs.Variable.{Variable, Global, Own, Bound}
use Rattle.setl_program.specs.declared.kinds.Source.{Source}
use Rattle.setl_program.specs.declared.kinds.Source.TheVariants.{Values, Between, SetSteps, TupleSteps}
use Rattle.setl_program.specs.Program.{Slots, Binding, Member, Components, Point, Begin, Members, Points, begin_of, Expr, Literal, Undefined, Name, Apply, Connect, Choose, Former, Selection, Quantified, Call, Newat, Eof, Ok, Exprs, no_expr, more_exprs, Iterators, no_iterator, more_iterators, Condition, no_condition, only_if, Arguments, no_argument, rd_argument, wr_argument, rw_argument, Selectors, no_selector, round_selector, brace_selector, Stmt, Assign, Update, AssignParts, TakeFrom, Perform, If, For, While, Quit, Continue, Fail, Succeed, Stop, Pass, Return, Print, Read, Block, no_stmt, more_stmts, Parameter, Procedure, Program}

-- Where a part stands: the number of its body and the procedures.
pub record Around : Type 0 where
  pub body : ℕ
  pub procedures : List Procedure

-- a variable of a body stands in this one
abbrev pub FormedVariable : ℕ → Variable → Type 0
FormedVariable n (Global name) = Unit {0}
FormedVariable n (Own body name) = body ≡ n
FormedVariable n (Bound former name) = Unit {0}

abbrev pub FormedSlots : ℕ → Slots → Type 0
FormedSlots n [] = Unit {0}
FormedSlots n (None ∷ xs) = FormedSlots n xs
FormedSlots n (Some x ∷ xs) = FormedVariable n x × FormedSlots n xs

abbrev pub FormedBinding : ℕ → Binding → Type 0
FormedBinding n (Member k x) = FormedVariable n x
FormedBinding n (Components k xs) = FormedSlots n xs
FormedBinding n (Point y x) = FormedVariable n y × FormedVariable n x

-- the kind of iterator that binds its members
abbrev pub BindsMembers : Binding → Type 0
BindsMembers (Member k x) = Unit {0}
BindsMembers (Components k xs) = Unit {0}
BindsMembers (Point y x) = ⊥

-- how many parts a source has
abbrev pub parts_of_source : Source → ℕ
parts_of_source Values = 1
parts_of_source Between = 2
parts_of_source SetSteps = 3
parts_of_source TupleSteps = 3

abbrev pub parts_of : Begin → ℕ
parts_of (Members k) = parts_of_source k
parts_of Points = 1

-- there is an iterator
abbrev pub HasIterator : Iterators → Type 0
HasIterator no_iterator = ⊥
HasIterator (more_iterators b es rest) = Unit {0}

abbrev pub number_of : Exprs → ℕ
number_of no_expr = 0
number_of (more_exprs e rest) = suc (number_of rest)

-- an argument for each parameter, with its passing
abbrev pub PassedAs : List Parameter → Arguments → Type 0
PassedAs [] no_argument = Unit {0}
PassedAs (p ∷ ps) (rd_argument e rest) = (p.passing ≡ Rd) × PassedAs ps rest
PassedAs (p ∷ ps) (wr_argument x rest) = (p.passing ≡ Wr) × PassedAs ps rest
PassedAs (p ∷ ps) (rw_argument x rest) = (p.passing ≡ Rw) × PassedAs ps rest
PassedAs ps all = ⊥

-- a call names a procedure, and passes what it takes
abbrev pub Passed : Option Procedure → Arguments → Type 0
Passed None all = ⊥
Passed (Some p) all = PassedAs p.parameters all

abbrev mutual
  pub FormedExpr : Around → Expr → Type 0
  FormedExpr a (Literal d) = Unit {0}
  FormedExpr a Undefined = Unit {0}
  FormedExpr a (Name x) = FormedVariable a.body x
  FormedExpr a (Apply o es) = FormedExprs a es
  FormedExpr a (Connect k x y) = FormedExpr a x × FormedExpr a y
  FormedExpr a (Choose t x y) = FormedExpr a t × FormedExpr a x × FormedExpr a y
  FormedExpr a (Former k e is t) = HasIterator is × FormedExpr a e × FormedIterators a is × FormedCondition a t
  FormedExpr a (Selection k b es c) = BindsMembers b × FormedBinding a.body b × FormedExprs a es × (number_of es ≡ parts_of (begin_of b)) × FormedExpr a c
  FormedExpr a (Quantified q is c) = HasIterator is × FormedIterators a is × FormedExpr a c
  FormedExpr a (Call f all) = Passed (slice_get a.procedures f) all × FormedArguments a all
  FormedExpr a Newat = Unit {0}
  FormedExpr a Eof = Unit {0}
  FormedExpr a Ok = Unit {0}

  pub FormedExprs : Around → Exprs → Type 0
  FormedExprs a no_expr = Unit {0}
  FormedExprs a (more_exprs e rest) = FormedExpr a e × FormedExprs a rest

  pub FormedIterators : Around → Iterators → Type 0
  FormedIterators a no_iterator = Unit {0}
  FormedIterators a (more_iterators b es rest) = FormedBinding a.body b × FormedExprs a es × (number_of es ≡ parts_of (begin_of b)) × FormedIterators a rest

  pub FormedCondition : Around → Condition → Type 0
  FormedCondition a no_condition = Unit {0}
  FormedCondition a (only_if e) = FormedExpr a e

  pub FormedArguments : Around → Arguments → Type 0
  FormedArguments a no_argument = Unit {0}
  FormedArguments a (rd_argument e rest) = FormedExpr a e × FormedArguments a rest
  FormedArguments a (wr_argument x rest) = FormedVariable a.body x × FormedArguments a rest
  FormedArguments a (rw_argument x rest) = FormedVariable a.body x × FormedArguments a rest

abbrev pub FormedSelectors : Around → Selectors → Type 0
FormedSelectors a no_selector = Unit {0}
FormedSelectors a (round_selector e rest) = FormedExpr a e × FormedSelectors a rest
FormedSelectors a (brace_selector e rest) = FormedExpr a e × FormedSelectors a rest

abbrev pub FormedVariables : ℕ → List Variable → Type 0
FormedVariables n [] = Unit {0}
FormedVariables n (x ∷ xs) = FormedVariable n x × FormedVariables n xs

-- `return` stands in a procedure
abbrev pub InProcedure : ℕ → Type 0
InProcedure zero = ⊥
InProcedure (suc n) = Unit {0}

abbrev pub IsInLoop : Bool → Type 0
IsInLoop true = Unit {0}
IsInLoop false = ⊥

-- `in_loop` says whether the statements stand in a loop
abbrev mutual
  pub FormedStmt : Around → (in_loop : Bool) → Stmt → Type 0
  FormedStmt a l (Assign p e) = FormedVariable a.body p.variable × FormedSelectors a p.selectors × FormedExpr a e
  FormedStmt a l (Update o p e) = FormedVariable a.body p.variable × FormedSelectors a p.selectors × FormedExpr a e
  FormedStmt a l (AssignParts xs e) = FormedSlots a.body xs × FormedExpr a e
  FormedStmt a l (TakeFrom k x p) = FormedVariable a.body x × FormedVariable a.body p.variable × FormedSelectors a p.selectors
  FormedStmt a l (Perform e) = FormedExpr a e
  FormedStmt a l (If e x y) = FormedExpr a e × FormedBlock a l x × FormedBlock a l y
  FormedStmt a l (For is t x) = HasIterator is × FormedIterators a is × FormedCondition a t × FormedBlock a true x
  FormedStmt a l (While e x) = FormedExpr a e × FormedBlock a true x
  FormedStmt a l Quit = IsInLoop l
  FormedStmt a l Continue = IsInLoop l
  FormedStmt a l Fail = Unit {0}
  FormedStmt a l Succeed = Unit {0}
  FormedStmt a l Stop = Unit {0}
  FormedStmt a l Pass = Unit {0}
  FormedStmt a l (Return e) = InProcedure a.body × FormedExpr a e
  FormedStmt a l (Print es) = FormedExprs a es
  FormedStmt a l (Read xs) = FormedVariables a.body xs

  pub FormedBlock : Around → (in_loop : Bool) → Block → Type 0
  FormedBlock a l no_stmt = Unit {0}
  FormedBlock a l (more_stmts line s rest) = FormedStmt a l s × FormedBlock a l rest

-- the bodies of procedures, the first of which has this number
abbrev pub FormedProcedures : List Procedure → ℕ → List Procedure → Type 0
FormedProcedures all n [] = Unit {0}
FormedProcedures all n (p ∷ ps) = FormedBlock (record { body = n; procedures = all }) false p.body × FormedProcedures all (suc n) ps

abbrev pub Formed : Program → Type 0
Formed p = FormedBlock (record { body = 0; procedures = p.procedures }) false p.main × FormedProcedures p.procedures 1 p.procedures
