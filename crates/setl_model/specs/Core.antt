-- The part of a state on which the next step rests.
use Rattle.std.specs.Prelude.{ℕ, List, [], ◌∷◌, Option}
use Rattle.setl_value.specs.Datum.{Datum}
use Rattle.setl_model_runs.specs.Variable.{Variable, Global, Own, Bound, Environment, value_in, with_value}
use Rattle.setl_operators_table.specs.declared.Operator.{Operator}
use Rattle.setl_program.specs.declared.kinds.Collection.{Collection}
use Rattle.setl_program.specs.declared.kinds.Connective.{Connective}
use Rattle.setl_program.specs.declared.kinds.Quantifier.{Quantifier}
use Rattle.setl_program.specs.declared.kinds.Taking.{Taking}
use Rattle.setl_program.specs.Program.{Slots, Binding, Expr, Exprs, Iterators, Condition, Arguments, Selectors, Place, Block}
use Rattle.setl_model_runs.specs.Run.{Store}
use Rattle.setl_model.specs.World.{World}

-- The values of the variables of the whole program and of the body in hand, and the world.
pub record Shared : Type 0 where
  pub globals : Environment
  pub own : Environment
  pub world : World

-- What is done next: statements, an expression to evaluate, a result that goes to the innermost frame, or an iteration
-- to go on.
pub data Hand : Type 0 where
  Execute : Block → Hand
  Evaluate : Expr → Hand
  Result : Option Datum → Hand
  Iterate : Hand

-- An expression with the results of its parts so far, the latest first.
pub data ExprFrame : Type 0 where
  -- operands, and those that are still to be evaluated
  Operands : Operator → (got : List (Option Datum)) → (rest : Exprs) → ExprFrame
  -- the left part of a connective, and its right part
  ConnectLeft : Connective → (right : Expr) → ExprFrame
  ConnectRight : ExprFrame
  -- the condition of a choice
  ChooseTest : Expr → Expr → ExprFrame

-- What an iteration is for: it collects the results of an expression, or its own members, decides a quantifier, or
-- repeats statements. What is collected stands with the latest first.
pub data Goal : Type 0 where
  Collect : Collection → Expr → (got : List (Option Datum)) → Goal
  Select : Collection → (member : Option Datum) → (got : List (Option Datum)) → Goal
  Decide : Quantifier → Goal
  Repeat : (line : ℕ) → Block → Goal

-- What an iterator gives at a step: a member, or an argument of a map with its image.
pub data Item : Type 0 where
  One : Option Datum → Item
  Two : (argument image : Option Datum) → Item

-- A started iterator, with what it binds, its sources and the items left.
pub record Level : Type 0 where
  pub binding : Binding
  pub sources : Exprs
  pub left : List Item

-- An iteration: the started iterators, the innermost first, and those that wait.
pub record Iteration : Type 0 where
  pub goal : Goal
  pub condition : Condition
  pub started : List Level
  pub waiting : Iterators

-- Where an iteration stands: at the sources of the next iterator, at an item to be bound, behind its binding, at the
-- condition, at the body, or between two steps.
pub data IterationFrame : Type 0 where
  Sources : (got : List (Option Datum)) → (rest : Exprs) → IterationFrame
  ToBind : Item → IterationFrame
  IsBound Testing Body Paused : IterationFrame

-- The variables that a call sets at its return, each with the parameter whose value it gets.
abbrev pub HandBacks : Type 0
HandBacks = List (Variable × Variable)

-- A call with its arguments so far, the latest first, or the body of a procedure at work.
pub data CallFrame : Type 0 where
  Argument : (procedure : ℕ) → (all : Arguments) → (got : List (Option Datum)) → (rest : Arguments) → CallFrame
  -- the procedure's name, what it hands back, and the caller's own variables
  Activation : (name : List ℕ) → HandBacks → (own : Environment) → CallFrame

-- A selector with its result.
pub data Selected : Type 0 where
  Round Brace : Option Datum → Selected

-- What an update does with the present part: it puts a new one, or combines it with a right side.
pub data Change : Type 0 where
  Puts : Option Datum → Change
  Combines : Operator → Option Datum → Change
  -- takes a value out of it, which goes to a variable
  Takes : Taking → Variable → Change

-- A statement with the results of its parts so far, the latest first.
pub data StmtFrame : Type 0 where
  -- the right side of `p := e`, of `p op:= e`, and of `[x, -, y] := e`
  AssignRight : Place → StmtFrame
  UpdateRight : Operator → Place → StmtFrame
  PartsRight : Slots → StmtFrame
  -- a selector: whether it is `{..}`, those before it, and those behind it
  RoundSelector BraceSelector : Variable → Change → (got : List Selected) → (rest : Selectors) → StmtFrame
  IfTest : Block → Block → StmtFrame
  WhileTest WhileBody : Expr → Block → StmtFrame
  PrintParts : (got : List (Option Datum)) → (rest : Exprs) → StmtFrame
  -- a result that is returned, and one that is dropped
  Returning Dropping : StmtFrame

-- What waits for the result or the end of what is in hand.
pub data Frame : Type 0 where
  InExpr : ExprFrame → Frame
  InIteration : IterationFrame → Iteration → Frame
  InCall : CallFrame → Frame
  InStmt : (line : ℕ) → StmtFrame → Frame
  -- the stores that are still to be made
  Storing : List Store → Frame
  -- the statements that follow
  Then : Block → Frame

-- What `ok` keeps.
pub record Snapshot : Type 0 where
  pub globals : Environment
  pub own : Environment
  pub work : List Frame

-- The core: the variables and the world, what is in hand, the frames, the innermost first, and the
-- snapshots, the latest first.
pub record Core : Type 0 where
  pub shared : Shared
  pub hand : Hand
  pub work : List Frame
  pub kept : List Snapshot

-- what a variable holds
abbrev pub read_variable : Variable → Shared → Option Datum
read_variable (Global name) s = value_in s.globals (Global name)
read_variable (Own body name) s = value_in s.own (Own body name)
read_variable (Bound former name) s = value_in s.own (Bound former name)

-- the same with another value for one variable
abbrev pub write_variable : Variable → Option Datum → Shared → Shared
write_variable (Global name) v s = record s { globals = with_value s.globals (Global name) v }
write_variable (Own body name) v s = record s { own = with_value s.own (Own body name) v }
write_variable (Bound former name) v s = record s { own = with_value s.own (Bound former name) v }

-- the line of a loop; another iteration stands at the line around it
abbrev pub goal_line : Goal → ℕ → ℕ
goal_line (Repeat line b) around = line
goal_line g around = around

-- the line of the innermost statement among the frames
abbrev pub line_of : List Frame → ℕ
line_of [] = 0
line_of (InExpr f ∷ work) = line_of work
line_of (InIteration f i ∷ work) = goal_line i.goal (line_of work)
line_of (InCall f ∷ work) = line_of work
line_of (InStmt line f ∷ work) = line
line_of (Storing xs ∷ work) = line_of work
line_of (Then b ∷ work) = line_of work
