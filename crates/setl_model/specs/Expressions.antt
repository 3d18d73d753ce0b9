-- Steps of expressions.
use Rattle.std.specs.Prelude.{◌+◌, true, false, List, [], ◌∷◌, reverse, Option, Some, None}
use Rattle.setl_value.specs.Datum.{Datum, bool, atom}
use Rattle.setl_operators_table.specs.declared.Operator.{Operator}
use Rattle.setl_operators_table.specs.Operators.{op_of}
use Rattle.setl_program.specs.declared.kinds.Connective.{Connective}
use Rattle.setl_program.specs.declared.kinds.Connective.TheVariants.{And, Or, Implies}
use Rattle.setl_program.specs.Program.{Expr, Literal, Undefined, Name, Apply, Connect, Choose, Former, Selection, Quantified, Call, Newat, Eof, Ok, Exprs, no_expr, more_exprs, only_if, Program, more_iterators, no_iterator}
use Rattle.setl_model_runs.specs.Events.{Kept}
use Rattle.setl_model_runs.specs.Run.{Move, Moves}
use Rattle.setl_model.specs.Core.{Evaluate, Result, ExprFrame, Operands, ConnectLeft, ConnectRight, ChooseTest, Collect, Select, Decide, Frame, InExpr, Core, read_variable, line_of}
use Rattle.setl_model.specs.World.{branch}
use Rattle.setl_model.specs.Moves.{go, turn, deliver}
use Rattle.setl_model.specs.Iterations.{begin}
use Rattle.setl_model.specs.Calls.{arguments}

-- the next operand from left to right, or the operator over all of them
abbrev pub operands : Operator → List (Option Datum) → Exprs → List Frame → Core → Move Core
operands o got no_expr work c = deliver (op_of o (reverse got) c.shared.world.left) work c
operands o got (more_exprs e rest) work c = go (Evaluate e) (InExpr (Operands o got rest) ∷ work) c

-- `ok`: the environment and the frames are kept
abbrev pub keep : List Frame → Core → Move Core
keep work c =
    Moves [] (Kept ∷ [])
    (record c {
      hand = Result (Some (bool true));
      work = work;
      kept = record { globals = c.shared.globals; own = c.shared.own; work = work } ∷ c.kept;
    })
    0 []

-- `newat`: one turn and the next atom
abbrev pub draw : List Frame → Core → Move Core
draw work c = turn c (λ d. go (Result (Some (atom d.shared.world.atom))) work (record d { shared = record d.shared { world = record d.shared.world { atom = d.shared.world.atom + 1 } } }))

-- an expression in hand
abbrev pub evaluate : Program → Expr → List Frame → Core → Move Core
evaluate p (Literal d) work c = go (Result (Some d)) work c
evaluate p Undefined work c = go (Result None) work c
evaluate p (Name x) work c = go (Result (read_variable x c.shared)) work c
evaluate p (Apply o es) work c = operands o [] es work c
evaluate p (Connect k a b) work c = go (Evaluate a) (InExpr (ConnectLeft k b) ∷ work) c
evaluate p (Choose t a b) work c = go (Evaluate t) (InExpr (ChooseTest a b) ∷ work) c
evaluate p (Former k e is t) work c = begin (Collect k e []) is t work c
evaluate p (Selection k b es e) work c = begin (Select k None []) (more_iterators b es no_iterator) (only_if e) work c
evaluate p (Quantified q is t) work c = begin (Decide q) is (only_if t) work c
evaluate p (Call f all) work c = arguments p f all [] all work c
evaluate p Newat work c = draw work c
evaluate p Eof work c = go (Result (Some (bool c.shared.world.eof))) work c
evaluate p Ok work c = keep work c

-- the left part of a connective decides, or the right part is evaluated
abbrev pub connect : Connective → Expr → Option Datum → List Frame → Core → Move Core
connect And b v work c = branch v (line_of work) (go (Evaluate b) (InExpr ConnectRight ∷ work) c) (go (Result (Some (bool false))) work c)
connect Or b v work c = branch v (line_of work) (go (Result (Some (bool true))) work c) (go (Evaluate b) (InExpr ConnectRight ∷ work) c)
connect Implies b v work c = branch v (line_of work) (go (Evaluate b) (InExpr ConnectRight ∷ work) c) (go (Result (Some (bool true))) work c)

-- a result of a part of an expression
abbrev pub result_in_expr : ExprFrame → Option Datum → List Frame → Core → Move Core
result_in_expr (Operands o got rest) v work c = operands o (v ∷ got) rest work c
result_in_expr (ConnectLeft k b) v work c = connect k b v work c
result_in_expr ConnectRight v work c = branch v (line_of work) (go (Result v) work c) (go (Result v) work c)
result_in_expr (ChooseTest a b) v work c = branch v (line_of work) (go (Evaluate a) work c) (go (Evaluate b) work c)
