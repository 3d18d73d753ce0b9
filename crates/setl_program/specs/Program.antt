-- Programs as plain data, in which each name stands for its variable.
use Rattle.std.specs.Prelude.{ℕ, List, Option}
use Rattle.setl_value.specs.Datum.{Datum}
use Rattle.setl_model_runs.specs.Variable.{Variable}
use Rattle.setl_operators_table.specs.declared.Operator.{Operator}
use Rattle.setl_program.specs.declared.kinds.Connective.{Connective}
use Rattle.setl_program.specs.declared.kinds.Quantifier.{Quantifier}
use Rattle.setl_program.specs.declared.kinds.Collection.{Collection}
use Rattle.setl_program.specs.declared.kinds.Source.{Source}
use Rattle.setl_program.specs.declared.kinds.Taking.{Taking}
use Rattle.setl_tree.specs.declared.tree.Passing.{Passing}
use Rattle.setl_modes.specs.Modes.{Mode}

-- The names that a tuple is taken apart into, in their order; `None` is `-`, which skips a component.
abbrev pub Slots : Type 0
Slots = List (Option Variable)

-- What an iterator runs over, and what it binds at each step.
pub data Binding : Type 0 where
  -- x, in `x in s`
  Member : Source → (variable : Variable) → Binding
  -- [x, -, y], in `[x, -, y] in s`
  Components : Source → Slots → Binding
  -- y and x, in `y = f(x)`, which runs over the arguments of f with their images
  Point : (image argument : Variable) → Binding

-- How an iterator begins: over the members of a source, or over the arguments of a map with their images.
pub data Begin : Type 0 where
  Members : Source → Begin
  Points : Begin

abbrev pub begin_of : Binding → Begin
begin_of (Member k x) = Members k
begin_of (Components k xs) = Members k
begin_of (Point y x) = Points

mutual
  pub data Expr : Type 0 where
    Literal : Datum → Expr
    -- `om`
    Undefined : Expr
    Name : Variable → Expr
    -- an operator over its operands in their order
    Apply : Operator → Exprs → Expr
    Connect : Connective → Expr → Expr → Expr
    -- if c then a else b end
    Choose : Expr → Expr → Expr → Expr
    -- {e : iterators | c} or [e : iterators | c]
    Former : Collection → Expr → Iterators → Condition → Expr
    -- {bound in s | c} or [bound in s | c], which collects the members of one iterator
    Selection : Collection → Binding → (sources : Exprs) → Expr → Expr
    Quantified : Quantifier → Iterators → Expr → Expr
    -- a procedure by its place among the program's procedures
    Call : (procedure : ℕ) → Arguments → Expr
    Newat Eof Ok : Expr

  pub data Exprs : Type 0 where
    no_expr : Exprs
    more_exprs : Expr → Exprs → Exprs

  -- Iterators in their order, each with the expressions of its source.
  pub data Iterators : Type 0 where
    no_iterator : Iterators
    more_iterators : Binding → (sources : Exprs) → Iterators → Iterators

  pub data Condition : Type 0 where
    no_condition : Condition
    only_if : Expr → Condition

  -- Arguments in their order: a value, or a variable that is only set, or one that is passed in and out.
  pub data Arguments : Type 0 where
    no_argument : Arguments
    rd_argument : Expr → Arguments → Arguments
    wr_argument rw_argument : Variable → Arguments → Arguments

-- The selectors of a place in their order, `(e)` and `{e}`; several expressions in one are their tuple.
pub data Selectors : Type 0 where
  no_selector : Selectors
  round_selector brace_selector : Expr → Selectors → Selectors

-- What an update changes: a variable, or the part of its value at some selectors.
pub record Place : Type 0 where
  pub variable : Variable
  pub selectors : Selectors

mutual
  pub data Stmt : Type 0 where
    -- p := e
    Assign : Place → Expr → Stmt
    -- p op:= e
    Update : Operator → Place → Expr → Stmt
    -- [x, -, y] := e
    AssignParts : Slots → Expr → Stmt
    -- x from p
    TakeFrom : Taking → Variable → Place → Stmt
    -- a call whose result is dropped
    Perform : Expr → Stmt
    If : Expr → Block → Block → Stmt
    For : Iterators → Condition → Block → Stmt
    While : Expr → Block → Stmt
    Quit Continue Fail Succeed Stop Pass : Stmt
    -- `return` without an expression returns `om`
    Return : Expr → Stmt
    -- print(e, ..)
    Print : Exprs → Stmt
    Read : List Variable → Stmt

  -- Statements in their order, each with the line of its first token.
  pub data Block : Type 0 where
    no_stmt : Block
    more_stmts : (line : ℕ) → Stmt → Block → Block

-- A parameter, with the line of its first token.
pub record Parameter : Type 0 where
  pub passing : Passing
  pub name : List ℕ
  pub line : ℕ

-- A procedure, with the line of its `end`.
pub record Procedure : Type 0 where
  pub name : List ℕ
  pub parameters : List Parameter
  pub body : Block
  pub end_line : ℕ

-- A program: its name, the names in `var`, the statements of its main body, the line of its `end`, its procedures in
-- their order, and the modes of its declared variables.
pub record Program : Type 0 where
  pub name : List ℕ
  pub vars : List (List ℕ)
  pub main : Block
  pub end_line : ℕ
  pub procedures : List Procedure
  pub modes : List (Variable × Mode)
