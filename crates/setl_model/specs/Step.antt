-- The steps of a run.
use Rattle.std.specs.Prelude.{◌≡◌, Bool, true, false, List, [], ◌∷◌, cond, Option, Some, None}
use Rattle.setl_value.specs.Datum.{Datum}
use Rattle.setl_program.specs.Program.{Program}
use Rattle.setl_modes.specs.Modes.{Mode}
use Rattle.setl_modes.specs.Fits.{is_taken}
use Rattle.setl_model_runs.specs.Variable.{Variable, is_variable}
use Rattle.setl_model_runs.specs.Events.{Stuck}
use Rattle.setl_model_runs.specs.Run.{Store, Move, Halts, State, Goes, Machine, Test, step}
use Rattle.setl_model.specs.Core.{Hand, Execute, Evaluate, Result, Iterate, Frame, InExpr, InIteration, InCall, InStmt, Storing, Core, write_variable, line_of}
use Rattle.setl_model.specs.Moves.{go, store_or_bind}
use Rattle.setl_model.specs.Expressions.{evaluate, result_in_expr}
use Rattle.setl_model.specs.Iterations.{iterate, result_in_iteration}
use Rattle.setl_model.specs.Calls.{result_in_call}
use Rattle.setl_model.specs.Statements.{execute, result_in_stmt}

-- one of the stores that are still to be made
abbrev pub store_next : List Store → Option Datum → List Frame → Core → Move Core
store_next [] v work c = go (Result v) work c
store_next (x ∷ xs) v work c = store_or_bind (line_of work) x.0 x.1 (Result v) (Storing xs ∷ work) c

-- a result in hand goes to the innermost frame
abbrev pub result : Program → Option Datum → List Frame → Core → Move Core
result p v (InExpr f ∷ work) c = result_in_expr f v work c
result p v (InIteration f i ∷ work) c = result_in_iteration f v i work c
result p v (InCall f ∷ work) c = result_in_call p f v work c
result p v (InStmt line f ∷ work) c = result_in_stmt line f v work c
result p v (Storing xs ∷ work) c = store_next xs v work c
result p v work c = Halts Stuck

-- the move by what is in hand
abbrev pub move_by : Program → Hand → Core → Move Core
move_by p (Execute b) c = execute b c.work c
move_by p (Evaluate e) c = evaluate p e c.work c
move_by p (Result v) c = result p v c.work c
move_by p Iterate c = iterate c.work c

-- the language: how a core moves in a program, and how it takes a value for a variable
abbrev pub language : Program → Machine Core
language p = record {
  move = λ c. move_by p c.hand c;
  write = λ x v c. record c { shared = write_variable x v c.shared };
}

-- the declaration of a variable, if it has one
abbrev pub declared_mode : List (Variable × Mode) → Variable → Option Mode
declared_mode [] x = None
declared_mode (m ∷ ms) x = cond (is_variable m.0 x) (Some m.1) (declared_mode ms x)

-- which values the variables take: every value where the declarations don't count
abbrev pub test_of : List (Variable × Mode) → Bool → Test
test_of modes false = λ x v. true
test_of modes true = λ x v. is_taken (declared_mode modes x) v

-- the second state comes next after the first; `based` says whether the declarations count
abbrev pub Step : Program → Bool → State Core → State Core → Type 0
Step p based a b = step (language p) (test_of p.modes based) a ≡ Goes b
