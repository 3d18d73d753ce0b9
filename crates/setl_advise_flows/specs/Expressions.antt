-- The flows of expressions, and what each part of a program asks of the flows of variables and of results.
use Rattle.std.specs.Prelude.{◌≡◌, ℕ, suc, List, [], ◌∷◌, slice_get, Option, Some, None}
use Rattle.std.specs.List.{AllByRecursion}
use Rattle.setl_value.specs.Datum.{Datum, bool, int, text, atom}
use Rattle.setl_model_runs.specs.Variable.{Variable}
use Rattle.setl_operators_table.specs.declared.Operator.{Operator}
use Rattle.setl_program.specs.declared.kinds.Collection.{Collection}
use Rattle.setl_program.specs.declared.kinds.Collection.TheVariants.{OfSet, OfTuple}
use Rattle.setl_program.specs.declared.kinds.Source.TheVariants.{Values, Between, SetSteps, TupleSteps}
use Rattle.setl_program.specs.Program.{Slots, Binding, Member, Components, Point, Begin, Members, Points, begin_of, Expr, Literal, Undefined, Name, Apply, Connect, Choose, Former, Selection, Quantified, Call, Newat, Eof, Ok, Exprs, no_expr, more_exprs, Iterators, no_iterator, more_iterators, Condition, no_condition, only_if, Arguments, no_argument, rd_argument, wr_argument, rw_argument, Selectors, no_selector, round_selector, brace_selector, Stmt, Assign, Update, AssignParts, TakeFrom, Perform, If, For, While, Quit, Continue, Fail, Succeed, Stop, Pass, Return, Print, Read, Block, no_stmt, more_stmts, Parameter, Procedure, Program}
use Rattle.setl_program.specs.Formed.{BindsMembers}
use Rattle.setl_model.specs.Core.{HandBacks}
use Rattle.setl_model.specs.Calls.{parameter, hand_backs}
use Rattle.setl_advise_flows.specs.Flow.{Whole, Letters, Truth, Token, Flow, Nothing, Scalar, Set, Tuple, Map, Any, join, Below, set_flow, tuple_flow, map_flow}
use Rattle.setl_advise_flows.specs.Operators.{el, part, Shape, Plain, Constant, Written, flow_of, flows, op_shape, get_flow, images_flow, domain_flow, put_flow, put_images_flow}

-- The flows of the variables, and of the procedures' results by their places.
pub record Flows : Type 0 where
  pub of : Variable → Flow
  pub result : ℕ → Flow

abbrev pub literal_flow : Datum → Flow
literal_flow (int z) = Scalar Whole
literal_flow (text t) = Scalar Letters
literal_flow (bool b) = Scalar Truth
literal_flow (atom n) = Scalar Token
literal_flow d = Any

-- ---- iterators

-- the flow of what an iterator runs over
abbrev pub source_flow : Begin → List Flow → Flow
source_flow (Members Values) (a ∷ []) = a
source_flow (Members Between) fs = Set (Scalar Whole)
source_flow (Members SetSteps) fs = Set (Scalar Whole)
source_flow (Members TupleSteps) fs = Tuple (Scalar Whole)
source_flow Points (a ∷ []) = a
source_flow b fs = Any

-- the arguments in `y = f(x)`
abbrev pub argument_flow : Flow → Flow
argument_flow (Tuple h) = Scalar Whole
argument_flow (Scalar Letters) = Scalar Whole
argument_flow f = el (domain_flow f)

-- a member of a map is known as a pair
abbrev pub member_shape : Flow → Shape
member_shape (Map f g) = Written f g
member_shape f = Plain (el f)

-- the set or tuple of members of a shape
abbrev pub of_members : Collection → Shape → Flow
of_members OfSet (Written f g) = map_flow f g
of_members OfSet w = set_flow (flow_of w)
of_members OfTuple w = tuple_flow (flow_of w)

-- ---- expressions

abbrev mutual
  pub shape_of : Flows → Expr → Shape
  shape_of s (Literal d) = Constant (literal_flow d)
  shape_of s Undefined = Plain Nothing
  shape_of s (Name x) = Plain (s.of x)
  shape_of s (Apply o es) = op_shape o (shapes_of s es)
  shape_of s (Connect k a b) = Plain (Scalar Truth)
  shape_of s (Choose t a b) = Plain (join (flow_of (shape_of s a)) (flow_of (shape_of s b)))
  shape_of s (Former k e is t) = Plain (of_members k (Plain (flow_of (shape_of s e))))
  shape_of s (Selection k b es t) = Plain (of_members k (member_shape (source_flow (begin_of b) (flows (shapes_of s es)))))
  shape_of s (Quantified q is t) = Plain (Scalar Truth)
  shape_of s (Call f all) = Plain (s.result f)
  shape_of s Newat = Plain (Scalar Token)
  shape_of s Eof = Plain (Scalar Truth)
  shape_of s Ok = Plain (Scalar Truth)

  pub shapes_of : Flows → Exprs → List Shape
  shapes_of s no_expr = []
  shapes_of s (more_exprs e rest) = shape_of s e ∷ shapes_of s rest

abbrev pub flow_at : Flows → Expr → Flow
flow_at s e = flow_of (shape_of s e)

abbrev pub argument_shapes : Flows → Arguments → List Shape
argument_shapes s no_argument = []
argument_shapes s (rd_argument e rest) = shape_of s e ∷ argument_shapes s rest
argument_shapes s (wr_argument x rest) = Plain Nothing ∷ argument_shapes s rest
argument_shapes s (rw_argument x rest) = Plain (s.of x) ∷ argument_shapes s rest

-- ---- what is bound and passed

abbrev pub SlotsBelow : Flows → Flow → Slots → Type 0
SlotsBelow s f [] = Unit {0}
SlotsBelow s f (None ∷ xs) = SlotsBelow s f xs
SlotsBelow s f (Some x ∷ xs) = Below f (s.of x) × SlotsBelow s f xs

abbrev pub BindingBelow : Flows → Binding → Flow → Type 0
BindingBelow s (Member k x) f = Below (el f) (s.of x)
BindingBelow s (Components k xs) f = SlotsBelow s (part (el f)) xs
BindingBelow s (Point y x) f = Below (argument_flow f) (s.of x) × Below (get_flow f) (s.of y)

abbrev pub ParametersAbove : Flows → ℕ → List Parameter → List Shape → Type 0
ParametersAbove s body [] ws = Unit {0}
ParametersAbove s body (x ∷ xs) [] = Unit {0}
ParametersAbove s body (x ∷ xs) (w ∷ ws) = Below (flow_of w) (s.of (parameter body x)) × ParametersAbove s body xs ws

abbrev pub BacksBelow : Flows → HandBacks → Type 0
BacksBelow s bs = AllByRecursion (λ b. Below (s.of b.0) (s.of b.1)) bs

abbrev pub CallFlows : Flows → (body : ℕ) → Option Procedure → Arguments → List Shape → Type 0
CallFlows s body None all ws = Unit {0}
CallFlows s body (Some q) all ws = ParametersAbove s body q.parameters ws × BacksBelow s (hand_backs body q.parameters all)

-- ---- what the parts ask

abbrev mutual
  pub ExprFlows : Program → Flows → Expr → Type 0
  ExprFlows p s (Literal d) = Unit {0}
  ExprFlows p s Undefined = Unit {0}
  ExprFlows p s (Name x) = Unit {0}
  ExprFlows p s (Apply o es) = ExprsFlows p s es
  ExprFlows p s (Connect k a b) = ExprFlows p s a × ExprFlows p s b
  ExprFlows p s (Choose t a b) = ExprFlows p s t × ExprFlows p s a × ExprFlows p s b
  ExprFlows p s (Former k e is t) = ExprFlows p s e × IteratorsFlows p s is × ConditionFlows p s t
  ExprFlows p s (Selection k b es t) = BindsMembers b × ExprsFlows p s es × BindingBelow s b (source_flow (begin_of b) (flows (shapes_of s es))) × ExprFlows p s t
  ExprFlows p s (Quantified q is t) = IteratorsFlows p s is × ExprFlows p s t
  ExprFlows p s (Call f all) = CallFlows s (suc f) (slice_get p.procedures f) all (argument_shapes s all) × ArgumentsFlows p s all
  ExprFlows p s Newat = Unit {0}
  ExprFlows p s Eof = Unit {0}
  ExprFlows p s Ok = Unit {0}

  pub ExprsFlows : Program → Flows → Exprs → Type 0
  ExprsFlows p s no_expr = Unit {0}
  ExprsFlows p s (more_exprs e rest) = ExprFlows p s e × ExprsFlows p s rest

  pub IteratorsFlows : Program → Flows → Iterators → Type 0
  IteratorsFlows p s no_iterator = Unit {0}
  IteratorsFlows p s (more_iterators b es rest) = ExprsFlows p s es × BindingBelow s b (source_flow (begin_of b) (flows (shapes_of s es))) × IteratorsFlows p s rest

  pub ConditionFlows : Program → Flows → Condition → Type 0
  ConditionFlows p s no_condition = Unit {0}
  ConditionFlows p s (only_if e) = ExprFlows p s e

  pub ArgumentsFlows : Program → Flows → Arguments → Type 0
  ArgumentsFlows p s no_argument = Unit {0}
  ArgumentsFlows p s (rd_argument e rest) = ExprFlows p s e × ArgumentsFlows p s rest
  ArgumentsFlows p s (wr_argument x rest) = ArgumentsFlows p s rest
  ArgumentsFlows p s (rw_argument x rest) = ArgumentsFlows p s rest

-- ---- updates

-- A selector by the flow of its expression.
pub data At : Type 0 where
  RoundAt BraceAt : Flow → At

-- What is done to a place, by flows: a flow is put, or combined by an operator, or the place is taken from.
pub data Doing : Type 0 where
  Putting : Flow → Doing
  Combining : Operator → Shape → Doing
  Taking : Variable → Doing

abbrev pub part_flow : List At → Flow → Flow
part_flow [] f = f
part_flow (RoundAt x ∷ ats) f = part_flow ats (get_flow f)
part_flow (BraceAt x ∷ ats) f = part_flow ats (images_flow f)

-- the whole after the part at these selectors has another flow
abbrev pub whole_flow : List At → Flow → Flow → Flow
whole_flow [] f y = y
whole_flow (RoundAt x ∷ ats) f y = put_flow f x (whole_flow ats (get_flow f) y)
whole_flow (BraceAt x ∷ ats) f y = put_images_flow f x (whole_flow ats (images_flow f) y)

abbrev pub UpdateFlows : Flows → Variable → List At → Doing → Type 0
UpdateFlows s x ats (Putting f) = Below (whole_flow ats (s.of x) f) (s.of x)
UpdateFlows s x ats (Combining o w) = Below (whole_flow ats (s.of x) (flow_of (op_shape o (Plain (part_flow ats (s.of x)) ∷ w ∷ [])))) (s.of x)
UpdateFlows s x ats (Taking y) = Below (whole_flow ats (s.of x) (part_flow ats (s.of x))) (s.of x) × Below (el (part_flow ats (s.of x))) (s.of y)

abbrev pub ats_of : Flows → Selectors → List At
ats_of s no_selector = []
ats_of s (round_selector e rest) = RoundAt (flow_at s e) ∷ ats_of s rest
ats_of s (brace_selector e rest) = BraceAt (flow_at s e) ∷ ats_of s rest

abbrev pub SelectorsFlows : Program → Flows → Selectors → Type 0
SelectorsFlows p s no_selector = Unit {0}
SelectorsFlows p s (round_selector e rest) = ExprFlows p s e × SelectorsFlows p s rest
SelectorsFlows p s (brace_selector e rest) = ExprFlows p s e × SelectorsFlows p s rest

-- ---- statements; `r` is the flow of the procedure's result

abbrev pub ReadFlows : Flows → List Variable → Type 0
ReadFlows s xs = AllByRecursion (λ x. Below Any (s.of x)) xs

abbrev mutual
  pub StmtFlows : Program → Flows → Flow → Stmt → Type 0
  StmtFlows p s r (Assign l e) = ExprFlows p s e × SelectorsFlows p s l.selectors × UpdateFlows s l.variable (ats_of s l.selectors) (Putting (flow_at s e))
  StmtFlows p s r (Update o l e) = ExprFlows p s e × SelectorsFlows p s l.selectors × UpdateFlows s l.variable (ats_of s l.selectors) (Combining o (shape_of s e))
  StmtFlows p s r (AssignParts xs e) = ExprFlows p s e × SlotsBelow s (part (flow_at s e)) xs
  StmtFlows p s r (TakeFrom k x l) = SelectorsFlows p s l.selectors × UpdateFlows s l.variable (ats_of s l.selectors) (Taking x)
  StmtFlows p s r (Perform e) = ExprFlows p s e
  StmtFlows p s r (If e a b) = ExprFlows p s e × BlockFlows p s r a × BlockFlows p s r b
  StmtFlows p s r (For is t b) = IteratorsFlows p s is × ConditionFlows p s t × BlockFlows p s r b
  StmtFlows p s r (While e b) = ExprFlows p s e × BlockFlows p s r b
  StmtFlows p s r Quit = Unit {0}
  StmtFlows p s r Continue = Unit {0}
  StmtFlows p s r Fail = Unit {0}
  StmtFlows p s r Succeed = Unit {0}
  StmtFlows p s r Stop = Unit {0}
  StmtFlows p s r Pass = Unit {0}
  StmtFlows p s r (Return e) = ExprFlows p s e × Below (flow_at s e) r
  StmtFlows p s r (Print es) = ExprsFlows p s es
  StmtFlows p s r (Read xs) = ReadFlows s xs

  pub BlockFlows : Program → Flows → Flow → Block → Type 0
  BlockFlows p s r no_stmt = Unit {0}
  BlockFlows p s r (more_stmts line a rest) = StmtFlows p s r a × BlockFlows p s r rest

-- The conditions on the flows of a program.
pub record Solves (p : Program) (s : Flows) : Type 0 where
  pub main : BlockFlows p s Any p.main
  pub procedures : (f : ℕ) (q : Procedure) → slice_get p.procedures f ≡ Some q → BlockFlows p s (s.result f) q.body
