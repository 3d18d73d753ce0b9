-- The plain data that a program stands for.
use Rattle.std.specs.Prelude.{ℕ, List, [], ◌∷◌, map, Option}
use Rattle.std.specs.Option.{option_map}
use Rattle.setl_value.specs.Datum.{bool, int, text}
use Rattle.setl_model_runs.specs.Variable as run
use Rattle.setl_modes.specs.Modes.{Mode, mode_of}
use Rattle.setl_program.specs.declared.expr.Variable.{Variable}
use Rattle.setl_program.specs.declared.expr.Variable.TheVariants as v
use Rattle.setl_program.specs.declared.expr.Binding.{Binding}
use Rattle.setl_program.specs.declared.expr.Binding.TheVariants as b
use Rattle.setl_program.specs.declared.expr.Expr.{Expr, fold-Expr}
use Rattle.setl_program.specs.declared.expr.Argument.TheOpen.{Argument-F, Expr-F, Iterator-F, Link-F}
use Rattle.setl_program.specs.declared.expr.Iterator.{Iterator, fold-Iterator}
use Rattle.setl_program.specs.declared.expr.Argument.{Argument, fold-Argument}
use Rattle.setl_program.specs.declared.expr.Link.{Link, fold-Link}
use Rattle.setl_program.specs.declared.stmt.Selector.{Selector}
use Rattle.setl_program.specs.declared.stmt.Selector.TheVariants as s
use Rattle.setl_program.specs.declared.stmt.Place.{Place}
use Rattle.setl_program.specs.declared.stmt.Branch.{Branch, fold-Branch}
use Rattle.setl_program.specs.declared.stmt.Stmt.{Stmt, fold-Stmt}
use Rattle.setl_program.specs.declared.stmt.StmtKind.{StmtKind, fold-StmtKind}
use Rattle.setl_program.specs.declared.stmt.StmtKind.TheOpen.{StmtKind-F, Branch-F, Stmt-F}
use Rattle.setl_program.specs.declared.program.Declared.{Declared}
use Rattle.setl_program.specs.declared.program.Procedure.{Procedure}
use Rattle.setl_program.specs.declared.program.Program.{Program}
use Rattle.setl_program.specs.Program as plain
use Rattle.setl_program.specs.Operators.{one, two}
use Rattle.setl_program.specs.ProgramOf.{parameter_of}
pub use Rattle.setl_program.specs.Lists.{exprs_of, chained, iterators_of, condition_of, arguments_of, all_selectors, block_of, otherwise}

abbrev pub plain_variable : Variable → run.Variable
plain_variable (v.Global name) = run.Global name
plain_variable (v.Own body name) = run.Own body name
plain_variable (v.Former former name) = run.Bound former name

abbrev pub plain_slot : Option Variable → Option run.Variable
plain_slot x = option_map plain_variable x

abbrev pub plain_slots : List (Option Variable) → plain.Slots
plain_slots xs = map plain_slot xs

abbrev pub plain_binding : Binding → plain.Binding
plain_binding (b.Member k x) = plain.Member k (plain_variable x)
plain_binding (b.Components k xs) = plain.Components k (plain_slots xs)
plain_binding (b.Point y x) = plain.Point (plain_variable y) (plain_variable x)

-- ---- expressions

abbrev pub expr_step : Expr-F (plain.Arguments → plain.Arguments) plain.Expr (plain.Expr → plain.Expr) (plain.Binding × plain.Exprs) → plain.Expr
expr_step (Expr-F.Integer n) = plain.Literal (int n)
expr_step (Expr-F.Text t) = plain.Literal (text t)
expr_step (Expr-F.Truth t) = plain.Literal (bool t)
expr_step Expr-F.Undefined = plain.Undefined
expr_step (Expr-F.Name x) = plain.Name (plain_variable x)
expr_step (Expr-F.Apply o es) = plain.Apply o (exprs_of es)
expr_step (Expr-F.Chain e ls) = chained e ls
expr_step (Expr-F.Choose t x y) = plain.Choose t x y
expr_step (Expr-F.Former k e is t) = plain.Former k e (iterators_of is) (condition_of t)
expr_step (Expr-F.Selection k x es c) = plain.Selection k (plain_binding x) (exprs_of es) c
expr_step (Expr-F.Quantified q is c) = plain.Quantified q (iterators_of is) c
expr_step (Expr-F.Call f all) = plain.Call f (arguments_of all)
expr_step Expr-F.Newat = plain.Newat
expr_step Expr-F.Eof = plain.Eof
expr_step Expr-F.Ok = plain.Ok

abbrev pub iterator_step : Iterator-F (plain.Arguments → plain.Arguments) plain.Expr (plain.Expr → plain.Expr) (plain.Binding × plain.Exprs) → plain.Binding × plain.Exprs
iterator_step i = (plain_binding i.binding, exprs_of i.sources)

abbrev pub argument_step : Argument-F (plain.Arguments → plain.Arguments) plain.Expr (plain.Expr → plain.Expr) (plain.Binding × plain.Exprs) → plain.Arguments → plain.Arguments
argument_step (Argument-F.Rd e) = plain.rd_argument e
argument_step (Argument-F.Wr x) = plain.wr_argument (plain_variable x)
argument_step (Argument-F.Rw x) = plain.rw_argument (plain_variable x)

-- what a link makes of what stands before it
abbrev pub link_step : Link-F (plain.Arguments → plain.Arguments) plain.Expr (plain.Expr → plain.Expr) (plain.Binding × plain.Exprs) → plain.Expr → plain.Expr
link_step (Link-F.Unary o) e = one o e
link_step (Link-F.Binary o x) e = two o e x
link_step (Link-F.Ternary o x y) e = plain.Apply o (exprs_of (e ∷ x ∷ y ∷ []))
link_step (Link-F.Connect k x) e = plain.Connect k e x

abbrev pub plain_expr : Expr → plain.Expr
plain_expr = fold-Expr (plain.Arguments → plain.Arguments) plain.Expr (plain.Expr → plain.Expr) (plain.Binding × plain.Exprs) argument_step expr_step link_step iterator_step

abbrev pub plain_iterator : Iterator → plain.Binding × plain.Exprs
plain_iterator = fold-Iterator (plain.Arguments → plain.Arguments) plain.Expr (plain.Expr → plain.Expr) (plain.Binding × plain.Exprs) argument_step expr_step link_step iterator_step

abbrev pub plain_argument : Argument → plain.Arguments → plain.Arguments
plain_argument = fold-Argument (plain.Arguments → plain.Arguments) plain.Expr (plain.Expr → plain.Expr) (plain.Binding × plain.Exprs) argument_step expr_step link_step iterator_step

abbrev pub plain_link : Link → plain.Expr → plain.Expr
plain_link = fold-Link (plain.Arguments → plain.Arguments) plain.Expr (plain.Expr → plain.Expr) (plain.Binding × plain.Exprs) argument_step expr_step link_step iterator_step

abbrev pub plain_exprs : List Expr → plain.Exprs
plain_exprs es = exprs_of (map plain_expr es)

abbrev pub plain_iterators : List Iterator → plain.Iterators
plain_iterators is = iterators_of (map plain_iterator is)

abbrev pub plain_arguments : List Argument → plain.Arguments
plain_arguments all = arguments_of (map plain_argument all)

-- ---- statements

abbrev pub plain_selector : Selector → plain.Selectors → plain.Selectors
plain_selector (s.Round e) = plain.round_selector (plain_expr e)
plain_selector (s.Brace e) = plain.brace_selector (plain_expr e)

abbrev pub selectors_of : List Selector → plain.Selectors
selectors_of ss = all_selectors (map plain_selector ss)

abbrev pub plain_place : Place → plain.Place
plain_place p = record { variable = plain_variable p.variable; selectors = selectors_of p.selectors }

abbrev pub kind_step : StmtKind-F plain.Stmt (plain.Block → plain.Block) (ℕ × plain.Stmt) → plain.Stmt
kind_step (StmtKind-F.Assign p e) = plain.Assign (plain_place p) (plain_expr e)
kind_step (StmtKind-F.Update o p e) = plain.Update o (plain_place p) (plain_expr e)
kind_step (StmtKind-F.AssignParts xs e) = plain.AssignParts (plain_slots xs) (plain_expr e)
kind_step (StmtKind-F.TakeFrom k x p) = plain.TakeFrom k (plain_variable x) (plain_place p)
kind_step (StmtKind-F.Perform e) = plain.Perform (plain_expr e)
kind_step (StmtKind-F.If e x bs y) = plain.If (plain_expr e) (block_of x) (otherwise bs (block_of y))
kind_step (StmtKind-F.For is t x) = plain.For (plain_iterators is) (condition_of (option_map plain_expr t)) (block_of x)
kind_step (StmtKind-F.While e x) = plain.While (plain_expr e) (block_of x)
kind_step StmtKind-F.Quit = plain.Quit
kind_step StmtKind-F.Continue = plain.Continue
kind_step StmtKind-F.Fail = plain.Fail
kind_step StmtKind-F.Succeed = plain.Succeed
kind_step StmtKind-F.Stop = plain.Stop
kind_step StmtKind-F.Pass = plain.Pass
kind_step (StmtKind-F.Return e) = plain.Return (plain_expr e)
kind_step (StmtKind-F.Print es) = plain.Print (plain_exprs es)
kind_step (StmtKind-F.Read xs) = plain.Read (map plain_variable xs)

abbrev pub stmt_step : Stmt-F plain.Stmt (plain.Block → plain.Block) (ℕ × plain.Stmt) → ℕ × plain.Stmt
stmt_step x = (x.line, x.kind)

-- an `elseif` before what follows it
abbrev pub branch_step : Branch-F plain.Stmt (plain.Block → plain.Block) (ℕ × plain.Stmt) → plain.Block → plain.Block
branch_step b rest = plain.more_stmts b.line (plain.If (plain_expr b.condition) (block_of b.body) rest) plain.no_stmt

abbrev pub plain_kind : StmtKind → plain.Stmt
plain_kind = fold-StmtKind plain.Stmt (plain.Block → plain.Block) (ℕ × plain.Stmt) kind_step branch_step stmt_step

abbrev pub plain_stmt : Stmt → ℕ × plain.Stmt
plain_stmt = fold-Stmt plain.Stmt (plain.Block → plain.Block) (ℕ × plain.Stmt) kind_step branch_step stmt_step

abbrev pub plain_branch : Branch → plain.Block → plain.Block
plain_branch = fold-Branch plain.Stmt (plain.Block → plain.Block) (ℕ × plain.Stmt) kind_step branch_step stmt_step

abbrev pub plain_block : List Stmt → plain.Block
plain_block ss = block_of (map plain_stmt ss)

-- ---- programs

abbrev pub plain_procedure : Procedure → plain.Procedure
plain_procedure p = record {
  name = p.name;
  parameters = map parameter_of p.parameters;
  body = plain_block p.body;
  end_line = p.end_line;
}

abbrev pub plain_declared : Declared → run.Variable × Mode
plain_declared d = (plain_variable d.variable, mode_of d.mode)

abbrev pub plain_program : Program → plain.Program
plain_program p = record {
  name = p.name;
  vars = p.vars;
  main = plain_block p.main;
  end_line = p.end_line;
  procedures = map plain_procedure p.procedures;
  modes = map plain_declared p.declared;
}
