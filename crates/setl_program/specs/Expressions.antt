-- What the expressions of a tree become in a program.
use Rattle.std.specs.Prelude.{ℕ, true, false, List, [], ◌∷◌, ◌++◌, Option, Some, None}
use Rattle.setl_value.specs.Datum.{bool, int, text}
use Rattle.setl_tree.specs.declared.expr.BinaryOp.{BinaryOp}
use Rattle.setl_tree.specs.declared.expr.Relation.{Relation}
use Rattle.setl_tree.specs.declared.expr.Prefix.{Prefix}
use Rattle.setl_tree.specs.declared.expr.Quantifier.{Quantifier as Word}
use Rattle.setl_tree.specs.declared.expr.Bound.{Bound}
use Rattle.setl_tree.specs.declared.expr.Expr.{Expr as ExprTree, fold-Expr}
use Rattle.setl_tree.specs.declared.expr.Expr.TheOpen.{Expr-F, Inner-F, Iter-F, Selector-F}
use Rattle.setl_tree.specs.declared.expr.Inner.{Inner as InnerTree, fold-Inner}
use Rattle.setl_tree.specs.declared.expr.Iter.{Iter as IterTree, fold-Iter}
use Rattle.setl_tree.specs.declared.expr.Selector.{Selector as SelectorTree, fold-Selector}
use Rattle.setl_tree.specs.declared.tree.Param.{Param}
use Rattle.setl_tree.specs.declared.tree.Passing.{Passing}
use Rattle.setl_tree.specs.declared.tree.Passing.TheVariants as pa
use Rattle.setl_operators_table.specs.declared.Operator.{Operator}
use Rattle.setl_operators_table.specs.declared.Operator.TheVariants.{Get, Images, Slice, Tail, SetOf, TupleOf, SetRange, TupleRange, SetStep, TupleStep}
use Rattle.setl_model_runs.specs.Variable.{Variable}
use Rattle.setl_program.specs.declared.kinds.Collection.{Collection}
use Rattle.setl_program.specs.declared.kinds.Collection.TheVariants.{OfSet, OfTuple}
use Rattle.setl_program.specs.declared.kinds.Source.{Source}
use Rattle.setl_program.specs.declared.kinds.Source.TheVariants.{Values, Between, SetSteps, TupleSteps}
use Rattle.setl_program.specs.Program.{Binding, Point, Expr, Literal, Undefined, Name as Named, Apply, Choose, Former, Selection, Quantified, Call, Newat, Eof, Ok, Exprs, Arguments, rd_argument, wr_argument, rw_argument, Selectors, round_selector, brace_selector}
use Rattle.setl_program.specs.Lists.{exprs_of, iterators_of, condition_of, arguments_of}
use Rattle.setl_program.specs.Numbered.{Numbered, pure, ◌>>=◌, opened}
use Rattle.setl_names.specs.Names.{Name, with_names, in_order}
use Rattle.setl_names.specs.Occurrences.{names_of_bound}
use Rattle.setl_program.specs.Scope.{Scope, in_former, variable_of, bound_by, binding_of, procedure_of}
use Rattle.setl_program.specs.Operators.{one, two, binary, relation, prefix, quantifier}

-- ---- parts

-- What an iterator runs over: how the members come, and the expressions that are evaluated.
abbrev pub Range : Type 0
Range = Source × List Expr

-- An expression: what it becomes, what it becomes as the source of an iterator, and its name if it is a name alone.
pub record Part : Type 0 where
  pub term : Scope → Numbered Expr
  pub source : Scope → Numbered Range
  pub name : Option Name

-- The inside of braces or brackets, by whether it makes a set or a tuple.
pub record Inside : Type 0 where
  pub term : Collection → Scope → Numbered Expr
  pub source : Collection → Scope → Numbered Range

-- An iterator: the names that it binds, and what it becomes where these are own names of the former with a number, or
-- else variables.
pub record Turn : Type 0 where
  pub names : List Name
  pub iterator : Option ℕ → Scope → Numbered (Binding × Exprs)

-- A selector: what it makes of an expression, what it is in a place, and its expressions if it is a list in round brackets.
pub record Behind : Type 0 where
  pub applied : Expr → Scope → Numbered Expr
  pub selector : Scope → Numbered (Selectors → Selectors)
  pub list : Option (List Part)

-- the source that is a value
abbrev pub value_source : (Scope → Numbered Expr) → Scope → Numbered Range
value_source term s = do e ← term s; pure (Values, e ∷ [])

-- an expression that isn't a name alone, nor a range
abbrev pub part_by : (Scope → Numbered Expr) → Part
part_by term = record { term = term; source = value_source term; name = None }

abbrev pub constant : Expr → Part
constant e = part_by (λ s. pure e)

-- ---- lists of expressions

abbrev pub terms : List Part → Scope → Numbered (List Expr)
terms [] s = pure []
terms (x ∷ xs) s = do e ← x.term s; es ← terms xs s; pure (e ∷ es)

-- one expression alone, or the tuple of several
abbrev pub tuple_of_several : List Expr → Expr
tuple_of_several (e ∷ []) = e
tuple_of_several es = Apply TupleOf (exprs_of es)

-- a list in brackets behind an expression
abbrev pub listed : List Part → Scope → Numbered Expr
listed xs s = do es ← terms xs s; pure (tuple_of_several es)

abbrev pub optional : Option Part → Scope → Numbered (Option Expr)
optional None s = pure None
optional (Some x) s = do e ← x.term s; pure (Some e)

-- ---- operators

-- the operators of a chain with their right operands, behind an expression
abbrev pub chain_on : Expr → List (BinaryOp × Part) → Scope → Numbered Expr
chain_on e [] s = pure e
chain_on e (x ∷ xs) s = do b ← x.1.term s; chain_on (binary x.0 e b) xs s

abbrev pub chain : Part → List (BinaryOp × Part) → Scope → Numbered Expr
chain first others s = do e ← first.term s; chain_on e others s

abbrev pub comparison : Part → Relation → Part → Scope → Numbered Expr
comparison a r b s = do x ← a.term s; y ← b.term s; pure (two (relation r) x y)

abbrev pub prefixes : List Prefix → Expr → Expr
prefixes [] e = e
prefixes (p ∷ ps) e = one (prefix p) (prefixes ps e)

abbrev pub prefixed : List Prefix → Part → Scope → Numbered Expr
prefixed ps x s = do e ← x.term s; pure (prefixes ps e)

abbrev pub choice : Part → Part → Part → Scope → Numbered Expr
choice a b c s = do x ← a.term s; y ← b.term s; z ← c.term s; pure (Choose x y z)

-- ---- calls

abbrev pub value_argument : Part → Scope → Numbered (Arguments → Arguments)
value_argument x s = do e ← x.term s; pure (rd_argument e)

-- an argument that is a variable, by its name
abbrev pub variable_argument : (Variable → Arguments → Arguments) → Option Name → Part → Scope → Numbered (Arguments → Arguments)
variable_argument pass None x s = value_argument x s
variable_argument pass (Some y) x s = pure (pass (variable_of s y))

abbrev pub argument : Passing → Part → Scope → Numbered (Arguments → Arguments)
argument pa.Rd x s = value_argument x s
argument pa.Wr x s = variable_argument wr_argument x.name x s
argument pa.Rw x s = variable_argument rw_argument x.name x s

abbrev pub arguments : List Param → List Part → Scope → Numbered (List (Arguments → Arguments))
arguments (p ∷ ps) (x ∷ xs) s = do a ← argument p.passing x s; rest ← arguments ps xs s; pure (a ∷ rest)
arguments ps xs s = pure []

-- a call of the procedure at a place
abbrev pub call : ℕ → List Param → List Part → Scope → Numbered Expr
call place ps xs s = do all ← arguments ps xs s; pure (Call place (arguments_of all))

-- ---- selections

-- a list in brackets behind an expression, by the operator that takes both
abbrev pub at_list : Operator → List Part → Expr → Scope → Numbered Expr
at_list f xs e s = do i ← listed xs s; pure (two f e i)

abbrev pub with_bound : Expr → Expr → Option Expr → Expr
with_bound e i None = two Tail e i
with_bound e i (Some j) = Apply Slice (exprs_of (e ∷ i ∷ j ∷ []))

abbrev pub at_bounds : Part → Option Part → Expr → Scope → Numbered Expr
at_bounds a b e s = do i ← a.term s; j ← optional b s; pure (with_bound e i j)

-- an expression with selectors behind it
abbrev pub selected : Expr → List Behind → Scope → Numbered Expr
selected e [] s = pure e
selected e (b ∷ bs) s = do x ← b.applied e s; selected x bs s

abbrev pub selected_part : Part → List Behind → Scope → Numbered Expr
selected_part x bs s = do e ← x.term s; selected e bs s

abbrev pub named : Name → Scope → Expr
named f s = Named (variable_of s f)

-- a name before a list in round brackets: a call if the name is a procedure's
abbrev pub application : Option (ℕ × List Param) → Name → List Part → Scope → Numbered Expr
application None f xs s = at_list Get xs (named f s) s
application (Some p) f xs s = call p.0 p.1 xs s

-- a name with selectors, by the list of the first if it is one in round brackets, and by the others
abbrev pub by_list : Name → Option (List Part) → List Behind → List Behind → Scope → Numbered Expr
by_list f None bs others s = selected (named f s) bs s
by_list f (Some xs) bs others s = do e ← application (procedure_of s f) f xs s; selected e others s

abbrev pub name_selection : Name → List Behind → Scope → Numbered Expr
name_selection f [] s = pure (named f s)
name_selection f (b ∷ bs) s = by_list f b.list (b ∷ bs) bs s

abbrev pub by_name : Option Name → Part → List Behind → Scope → Numbered Expr
by_name None x bs s = selected_part x bs s
by_name (Some f) x bs s = name_selection f bs s

-- a procedure's name before a list in round brackets is a call; anything else is a selection
abbrev pub selection : Part → List Behind → Scope → Numbered Expr
selection x bs s = by_name x.name x bs s

-- ---- iterators

abbrev pub over : Bound → Part → Option ℕ → Scope → Numbered (Binding × Exprs)
over b x former s = do from ← x.source s; pure (binding_of b from.0 (bound_by former s), exprs_of from.1)

abbrev pub image : Name → Name → Name → Option ℕ → Scope → Numbered (Binding × Exprs)
image y f x former s = pure (Point (bound_by former s y) (bound_by former s x), exprs_of (named f s ∷ []))

-- those that bind variables
abbrev pub iterators : List Turn → Scope → Numbered (List (Binding × Exprs))
iterators [] s = pure []
iterators (t ∷ ts) s = do first ← t.iterator None s; rest ← iterators ts s; pure (first ∷ rest)

-- those of a former, each of which sees the names of the ones before it
abbrev pub own_iterators : ℕ → List Name → List Turn → Scope → Numbered (List (Binding × Exprs))
own_iterators m seen [] s = pure []
own_iterators m seen (t ∷ ts) s = do
  first ← t.iterator (Some m) (in_former m seen s)
  rest ← own_iterators m (with_names seen t.names) ts s
  pure (first ∷ rest)

abbrev pub names_of_turns : List Turn → List Name
names_of_turns [] = []
names_of_turns (t ∷ ts) = t.names ++ names_of_turns ts

abbrev pub quantified : Word → List Turn → Part → Scope → Numbered Expr
quantified q ts x s = do is ← iterators ts s; e ← x.term s; pure (Quantified (quantifier q) (iterators_of is) e)

-- ---- braces and brackets

abbrev pub enumeration : Collection → Operator
enumeration OfSet = SetOf
enumeration OfTuple = TupleOf

abbrev pub range_operator : Collection → Operator
range_operator OfSet = SetRange
range_operator OfTuple = TupleRange

abbrev pub step_operator : Collection → Operator
step_operator OfSet = SetStep
step_operator OfTuple = TupleStep

abbrev pub steps : Collection → Source
steps OfSet = SetSteps
steps OfTuple = TupleSteps

abbrev pub enumerated : List Part → Collection → Scope → Numbered Expr
enumerated xs k s = do es ← terms xs s; pure (Apply (enumeration k) (exprs_of es))

-- the bounds of a range in their order, where the second is there
abbrev pub bounds : Expr → Option Expr → Expr → List Expr
bounds a None c = a ∷ c ∷ []
bounds a (Some b) c = a ∷ b ∷ c ∷ []

abbrev pub bounded_operator : Collection → Option Expr → Operator
bounded_operator k None = range_operator k
bounded_operator k (Some b) = step_operator k

abbrev pub bounded_source : Collection → Option Expr → Source
bounded_source k None = Between
bounded_source k (Some b) = steps k

abbrev pub range_of : Collection → Expr → Option Expr → Expr → Expr
range_of k a b c = Apply (bounded_operator k b) (exprs_of (bounds a b c))

abbrev pub range : Part → Option Part → Part → Collection → Scope → Numbered Expr
range a b c k s = do x ← a.term s; y ← optional b s; z ← c.term s; pure (range_of k x y z)

-- the same written directly as the source of an iterator
abbrev pub range_source : Collection → Expr → Option Expr → Expr → Range
range_source k a b c = (bounded_source k b, bounds a b c)

abbrev pub source_range : Part → Option Part → Part → Collection → Scope → Numbered Range
source_range a b c k s = do x ← a.term s; y ← optional b s; z ← c.term s; pure (range_source k x y z)

-- a former that collects an expression, which sees all names that the former binds
abbrev pub former : Part → List Turn → Option Part → Collection → Scope → Numbered Expr
former x ts c k s = do
  m ← opened
  e ← x.term (in_former m (in_order (names_of_turns ts)) s)
  is ← own_iterators m [] ts s
  t ← optional c (in_former m (in_order (names_of_turns ts)) s)
  pure (Former k e (iterators_of is) (condition_of t))

-- a former that collects its members
abbrev pub filter : Bound → Part → Part → Collection → Scope → Numbered Expr
filter b x c k s = do
  m ← opened
  from ← x.source s
  t ← c.term (in_former m (in_order (names_of_bound b)) s)
  pure (Selection k (binding_of b from.0 (bound_by (Some m) s)) (exprs_of from.1) t)

-- what isn't a range
abbrev pub inside_by : (Collection → Scope → Numbered Expr) → Inside
inside_by term = record { term = term; source = λ k. value_source (term k) }

-- ---- selectors of a place

abbrev pub round_part : Part → Scope → Numbered (Selectors → Selectors)
round_part x s = do e ← x.term s; pure (round_selector e)

abbrev pub round_list : List Part → Scope → Numbered (Selectors → Selectors)
round_list xs s = do e ← listed xs s; pure (round_selector e)

abbrev pub brace_list : List Part → Scope → Numbered (Selectors → Selectors)
brace_list xs s = do e ← listed xs s; pure (brace_selector e)

-- ---- the whole

abbrev pub inside : Inside → Collection → Part
inside x k = record { term = x.term k; source = x.source k; name = None }

abbrev pub expr_step : Expr-F Part Inside Turn Behind → Part
expr_step (Expr-F.Number n) = constant (Literal (int n))
expr_step (Expr-F.Text t) = constant (Literal (text t))
expr_step Expr-F.Om = constant Undefined
expr_step Expr-F.True = constant (Literal (bool true))
expr_step Expr-F.False = constant (Literal (bool false))
expr_step Expr-F.Newat = constant Newat
expr_step Expr-F.Eof = constant Eof
expr_step Expr-F.Ok = constant Ok
expr_step (Expr-F.Name x) = record (part_by (λ s. pure (named x s))) { name = Some x }
expr_step (Expr-F.If a b c) = part_by (choice a b c)
expr_step (Expr-F.Set x) = inside x OfSet
expr_step (Expr-F.Tuple x) = inside x OfTuple
expr_step (Expr-F.Chain first others) = part_by (chain first others)
expr_step (Expr-F.Compare a r b) = part_by (comparison a r b)
expr_step (Expr-F.Prefixed ps x) = part_by (prefixed ps x)
expr_step (Expr-F.Selected x bs) = part_by (selection x bs)
expr_step (Expr-F.Quantified q ts x) = part_by (quantified q ts x)

abbrev pub inner_step : Inner-F Part Inside Turn Behind → Inside
inner_step (Inner-F.List xs) = inside_by (enumerated xs)
inner_step (Inner-F.Range a b c) = record { term = range a b c; source = source_range a b c }
inner_step (Inner-F.Former x ts c) = inside_by (former x ts c)
inner_step (Inner-F.Filter b x c) = inside_by (filter b x c)

abbrev pub iter_step : Iter-F Part Inside Turn Behind → Turn
iter_step (Iter-F.Over b x) = record { names = names_of_bound b; iterator = over b x }
iter_step (Iter-F.Image y f x) = record { names = y ∷ x ∷ []; iterator = image y f x }

abbrev pub selector_step : Selector-F Part Inside Turn Behind → Behind
selector_step (Selector-F.Round xs) = record { applied = at_list Get xs; selector = round_list xs; list = Some xs }
selector_step (Selector-F.Slice a b) = record { applied = at_bounds a b; selector = round_part a; list = None }
selector_step (Selector-F.Braces xs) = record { applied = at_list Images xs; selector = brace_list xs; list = None }

abbrev pub part_of : ExprTree → Part
part_of = fold-Expr Part Inside Turn Behind expr_step inner_step iter_step selector_step

abbrev pub inner_of : InnerTree → Inside
inner_of = fold-Inner Part Inside Turn Behind expr_step inner_step iter_step selector_step

abbrev pub turn_of : IterTree → Turn
turn_of = fold-Iter Part Inside Turn Behind expr_step inner_step iter_step selector_step

abbrev pub behind_of : SelectorTree → Behind
behind_of = fold-Selector Part Inside Turn Behind expr_step inner_step iter_step selector_step

-- what an expression becomes
abbrev pub term_of : ExprTree → Scope → Numbered Expr
term_of x = (part_of x).term
