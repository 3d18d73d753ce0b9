-- Programs whose literals are values.
use Rattle.std.proofs.Common.{ℕ, List, [], ◌∷◌, Option, Some, None}
use Rattle.setl_value.specs.WellFormed.{IsValue}
use Rattle.setl_tree.specs.declared.expr.BinaryOp.{BinaryOp}
use Rattle.setl_tree.specs.declared.expr.Prefix.{Prefix}
use Rattle.setl_operators_table.specs.declared.Operator.{Operator}
use Rattle.setl_program.specs.declared.kinds.Connective.{Connective}
use Rattle.setl_program.specs.Program.{Binding, Expr, Literal, Undefined, Name, Apply, Connect, Choose, Former, Selection, Quantified, Call, Newat, Eof, Ok, Exprs, no_expr, more_exprs, Iterators, no_iterator, more_iterators, Condition, no_condition, only_if, Arguments, no_argument, rd_argument, wr_argument, rw_argument, Selectors, no_selector, round_selector, brace_selector, Place, Stmt, Assign, Update, AssignParts, TakeFrom, Perform, If, For, While, Quit, Continue, Fail, Succeed, Stop, Pass, Return, Print, Read, Block, no_stmt, more_stmts}
use Rattle.setl_program.specs.Lists.{exprs_of, iterators_of, condition_of, arguments_of, all_selectors, block_of, otherwise}
use Rattle.setl_program.specs.Operators.{joined, binary, connective, updating}
use Rattle.setl_program.specs.Expressions as q
use Rattle.setl_top_values.proofs.Languages.{Each, Maybe}

abbrev mutual
  pub ExprStands : Expr → Type 0
  ExprStands (Literal d) = IsValue d
  ExprStands Undefined = Unit {0}
  ExprStands (Name x) = Unit {0}
  ExprStands (Apply o es) = ExprsStand es
  ExprStands (Connect k a b) = ExprStands a × ExprStands b
  ExprStands (Choose t a b) = ExprStands t × ExprStands a × ExprStands b
  ExprStands (Former k e is t) = ExprStands e × IteratorsStand is × ConditionStands t
  ExprStands (Selection k b es c) = ExprsStand es × ExprStands c
  ExprStands (Quantified w is c) = IteratorsStand is × ExprStands c
  ExprStands (Call f all) = ArgumentsStand all
  ExprStands Newat = Unit {0}
  ExprStands Eof = Unit {0}
  ExprStands Ok = Unit {0}

  pub ExprsStand : Exprs → Type 0
  ExprsStand no_expr = Unit {0}
  ExprsStand (more_exprs e rest) = ExprStands e × ExprsStand rest

  pub IteratorsStand : Iterators → Type 0
  IteratorsStand no_iterator = Unit {0}
  IteratorsStand (more_iterators b es rest) = ExprsStand es × IteratorsStand rest

  pub ConditionStands : Condition → Type 0
  ConditionStands no_condition = Unit {0}
  ConditionStands (only_if c) = ExprStands c

  pub ArgumentsStand : Arguments → Type 0
  ArgumentsStand no_argument = Unit {0}
  ArgumentsStand (rd_argument e rest) = ExprStands e × ArgumentsStand rest
  ArgumentsStand (wr_argument x rest) = ArgumentsStand rest
  ArgumentsStand (rw_argument x rest) = ArgumentsStand rest

abbrev pub SelectorsStand : Selectors → Type 0
SelectorsStand no_selector = Unit {0}
SelectorsStand (round_selector e rest) = ExprStands e × SelectorsStand rest
SelectorsStand (brace_selector e rest) = ExprStands e × SelectorsStand rest

abbrev pub PlaceStands : Place → Type 0
PlaceStands p = SelectorsStand p.selectors

abbrev mutual
  pub StmtStands : Stmt → Type 0
  StmtStands (Assign p e) = PlaceStands p × ExprStands e
  StmtStands (Update o p e) = PlaceStands p × ExprStands e
  StmtStands (AssignParts xs e) = ExprStands e
  StmtStands (TakeFrom k x p) = PlaceStands p
  StmtStands (Perform e) = ExprStands e
  StmtStands (If e a b) = ExprStands e × BlockStands a × BlockStands b
  StmtStands (For is t b) = IteratorsStand is × ConditionStands t × BlockStands b
  StmtStands (While e b) = ExprStands e × BlockStands b
  StmtStands Quit = Unit {0}
  StmtStands Continue = Unit {0}
  StmtStands Fail = Unit {0}
  StmtStands Succeed = Unit {0}
  StmtStands Stop = Unit {0}
  StmtStands Pass = Unit {0}
  StmtStands (Return e) = ExprStands e
  StmtStands (Print es) = ExprsStand es
  StmtStands (Read xs) = Unit {0}

  pub BlockStands : Block → Type 0
  BlockStands no_stmt = Unit {0}
  BlockStands (more_stmts line s rest) = StmtStands s × BlockStands rest

-- ---- lists

pub exprs_stand : (es : List Expr) → Each ExprStands es → ExprsStand (exprs_of es)
exprs_stand [] h = tt
exprs_stand (e ∷ es) h = (h.0, exprs_stand es h.1)

-- an iterator's sources
abbrev pub TurnStands : Binding × Exprs → Type 0
TurnStands i = ExprsStand i.1

pub iterators_stand : (is : List (Binding × Exprs)) → Each TurnStands is → IteratorsStand (iterators_of is)
iterators_stand [] h = tt
iterators_stand (i ∷ is) h = (h.0, iterators_stand is h.1)

pub condition_stands : (c : Option Expr) → Maybe ExprStands c → ConditionStands (condition_of c)
condition_stands None h = tt
condition_stands (Some e) h = h

-- what stands before arguments
abbrev pub BeforeArguments : (Arguments → Arguments) → Type 0
BeforeArguments f = (rest : Arguments) → ArgumentsStand rest → ArgumentsStand (f rest)

pub arguments_stand : (fs : List (Arguments → Arguments)) → Each BeforeArguments fs → ArgumentsStand (arguments_of fs)
arguments_stand [] h = tt
arguments_stand (f ∷ fs) h = h.0 (arguments_of fs) (arguments_stand fs h.1)

-- what stands before selectors
abbrev pub BeforeSelectors : (Selectors → Selectors) → Type 0
BeforeSelectors f = (rest : Selectors) → SelectorsStand rest → SelectorsStand (f rest)

pub selectors_stand : (fs : List (Selectors → Selectors)) → Each BeforeSelectors fs → SelectorsStand (all_selectors fs)
selectors_stand [] h = tt
selectors_stand (f ∷ fs) h = h.0 (all_selectors fs) (selectors_stand fs h.1)

abbrev pub LinedStands : ℕ × Stmt → Type 0
LinedStands s = StmtStands s.1

pub block_stands : (ss : List (ℕ × Stmt)) → Each LinedStands ss → BlockStands (block_of ss)
block_stands [] h = tt
block_stands (s ∷ ss) h = (h.0, block_stands ss h.1)

-- what stands before a block
abbrev pub BeforeBlock : (Block → Block) → Type 0
BeforeBlock f = (rest : Block) → BlockStands rest → BlockStands (f rest)

pub otherwise_stands : (fs : List (Block → Block)) (last : Block) → Each BeforeBlock fs → BlockStands last → BlockStands (otherwise fs last)
otherwise_stands [] last h g = g
otherwise_stands (f ∷ fs) last h g = h.0 (otherwise fs last) (otherwise_stands fs last h.1 g)

-- ---- operators

joined_stands : (k : Option Connective) (f : Operator) (a b : Expr) → ExprStands a → ExprStands b → ExprStands (joined k f a b)
joined_stands None f a b h g = (h, (g, tt))
joined_stands (Some k) f a b h g = (h, g)

pub binary_stands : (o : BinaryOp) (a b : Expr) → ExprStands a → ExprStands b → ExprStands (binary o a b)
binary_stands o a b h g = joined_stands (connective o) (updating o) a b h g

pub prefixes_stand : (ps : List Prefix) (e : Expr) → ExprStands e → ExprStands (q.prefixes ps e)
prefixes_stand [] e h = h
prefixes_stand (p ∷ ps) e h = (prefixes_stand ps e h, tt)
