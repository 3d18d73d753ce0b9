-- Steps of expressions and calls.
use Rattle.std.proofs.Common.{refl, ℕ, suc, List, [], ◌∷◌, Option, Some, None}
use Rattle.std.specs.Prelude.{reverse, slice_get}
use Rattle.setl_value.specs.Datum.{Datum}
use Rattle.setl_operators_table.specs.declared.Operator.{Operator}
use Rattle.setl_program.specs.declared.kinds.Connective.{Connective}
use Rattle.setl_program.specs.declared.kinds.Connective.TheVariants.{And, Or, Implies}
use Rattle.setl_model_runs.specs.Variable.{Global, Own, Bound}
use Rattle.setl_program.specs.Program.{Expr, Literal, Undefined, Name, Apply, Connect, Choose, Former, Selection, Quantified, Call, Newat, Eof, Ok, Exprs, no_expr, more_exprs, only_if, Program, more_iterators, no_iterator, Arguments, no_argument, rd_argument, wr_argument, rw_argument, Procedure}
use Rattle.setl_model.specs.Core.{ExprFrame, Operands, ConnectLeft, ConnectRight, ChooseTest, Collect, Select, Decide, CallFrame, Argument, Activation, Frame}
use Rattle.setl_model.specs.Expressions.{operands, evaluate, connect, result_in_expr}
use Rattle.setl_model.specs.Calls.{enter, arguments, result_in_call}
use Rattle.setl_operators_turns.specs.Operators.{op_keeps}
use Rattle.setl_model_turns.proofs.Moves.{GoesOn, after_a_turn, delivering, deciding}
use Rattle.setl_model_turns.proofs.Iterations.{beginning}

in_operands : (es : Exprs) (o : Operator) (got : List (Option Datum)) (work : List Frame) → GoesOn (operands o got es work)
in_operands no_expr o got work c n h = delivering _ _ _ work (op_keeps o (reverse got) c.shared.world.left n h) c n h
in_operands (more_exprs e rest) o got work c n h = (n, h, refl)

connecting : (k : Connective) (b : Expr) (v : Option Datum) (work : List Frame) → GoesOn (connect k b v work)
connecting And b v work c n h = deciding v _ _ _ _ _ (n, h, refl) (n, h, refl)
connecting Or b v work c n h = deciding v _ _ _ _ _ (n, h, refl) (n, h, refl)
connecting Implies b v work c n h = deciding v _ _ _ _ _ (n, h, refl) (n, h, refl)

pub expr_goes_on : (f : ExprFrame) (v : Option Datum) (work : List Frame) → GoesOn (result_in_expr f v work)
expr_goes_on (Operands o got rest) v work c n h = in_operands rest o (v ∷ got) work c n h
expr_goes_on (ConnectLeft k b) v work c n h = connecting k b v work c n h
expr_goes_on ConnectRight v work c n h = deciding v _ _ _ _ _ (n, h, refl) (n, h, refl)
expr_goes_on (ChooseTest a b) v work c n h = deciding v _ _ _ _ _ (n, h, refl) (n, h, refl)

entering : (body : ℕ) (p : Option Procedure) (all : Arguments) (vs : List (Option Datum)) (work : List Frame) → GoesOn (enter body p all vs work)
entering body None all vs work c n h = refl
entering body (Some p) all vs work c n h = after_a_turn _ (λ d m k. (m, k, refl)) c n h

in_arguments : (p : Program) (rest : Arguments) (f : ℕ) (all : Arguments) (got : List (Option Datum)) (work : List Frame) → GoesOn (arguments p f all got rest work)
in_arguments p no_argument f all got work c n h = entering (suc f) (slice_get p.procedures f) all (reverse got) work c n h
in_arguments p (rd_argument e rest) f all got work c n h = (n, h, refl)
in_arguments p (wr_argument x rest) f all got work c n h = (n, h, refl)
in_arguments p (rw_argument (Global name) rest) f all got work c n h = (n, h, refl)
in_arguments p (rw_argument (Own body name) rest) f all got work c n h = (n, h, refl)
in_arguments p (rw_argument (Bound former name) rest) f all got work c n h = (n, h, refl)

pub call_goes_on : (p : Program) (f : CallFrame) (v : Option Datum) (work : List Frame) → GoesOn (result_in_call p f v work)
call_goes_on p (Argument f all got rest) v work c n h = in_arguments p rest f all (v ∷ got) work c n h
call_goes_on p (Activation name backs own) v work c n h = (n, h, refl)

pub evaluating : (p : Program) (e : Expr) (work : List Frame) → GoesOn (evaluate p e work)
evaluating p (Literal d) work c n h = (n, h, refl)
evaluating p Undefined work c n h = (n, h, refl)
evaluating p (Name (Global name)) work c n h = (n, h, refl)
evaluating p (Name (Own body name)) work c n h = (n, h, refl)
evaluating p (Name (Bound former name)) work c n h = (n, h, refl)
evaluating p (Apply o es) work c n h = in_operands es o [] work c n h
evaluating p (Connect k a b) work c n h = (n, h, refl)
evaluating p (Choose t a b) work c n h = (n, h, refl)
evaluating p (Former k e is t) work c n h = beginning (Collect k e []) is t work c n h
evaluating p (Selection k b es e) work c n h = beginning (Select k None []) (more_iterators b es no_iterator) (only_if e) work c n h
evaluating p (Quantified q is t) work c n h = beginning (Decide q) is (only_if t) work c n h
evaluating p (Call f all) work c n h = in_arguments p all f all [] work c n h
evaluating p Newat work c n h = after_a_turn _ (λ d m k. (m, k, refl)) c n h
evaluating p Eof work c n h = (n, h, refl)
evaluating p Ok work c n h = (n, h, refl)
