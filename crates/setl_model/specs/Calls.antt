-- Steps of calls and returns.
use Rattle.std.specs.Prelude.{ℕ, suc, List, [], ◌∷◌, reverse, slice_get, Option, Some, None}
use Rattle.setl_value.specs.Datum.{Datum}
use Rattle.setl_model_runs.specs.Variable.{Variable, Own, Environment, value_in}
use Rattle.setl_program.specs.Program.{Arguments, no_argument, rd_argument, wr_argument, rw_argument, Parameter, Procedure, Program}
use Rattle.setl_model_runs.specs.Events.{Called, Returned, Stuck}
use Rattle.setl_model_runs.specs.Run.{Store, Move, Moves, Halts}
use Rattle.setl_model.specs.Core.{Execute, Evaluate, Result, HandBacks, CallFrame, Argument, Activation, Frame, InCall, Storing, Core, read_variable, line_of}
use Rattle.setl_model.specs.Moves.{go, turn}

-- a parameter of a body as a variable
abbrev pub parameter : ℕ → Parameter → Variable
parameter body x = Own body x.name

-- the stores of the arguments in the parameters of a body, from left to right
abbrev pub bindings : ℕ → List Parameter → List (Option Datum) → List Store
bindings body [] vs = []
bindings body (x ∷ xs) [] = (parameter body x, None) ∷ bindings body xs []
bindings body (x ∷ xs) (v ∷ vs) = (parameter body x, v) ∷ bindings body xs vs

-- which parameters are handed back to which variables
abbrev pub hand_backs : ℕ → List Parameter → Arguments → HandBacks
hand_backs body [] arguments = []
hand_backs body (x ∷ xs) no_argument = []
hand_backs body (x ∷ xs) (rd_argument e rest) = hand_backs body xs rest
hand_backs body (x ∷ xs) (wr_argument y rest) = (parameter body x, y) ∷ hand_backs body xs rest
hand_backs body (x ∷ xs) (rw_argument y rest) = (parameter body x, y) ∷ hand_backs body xs rest

-- the stores at the return, from left to right, of what the parameters hold
abbrev pub handed_back : HandBacks → Environment → List Store
handed_back [] own = []
handed_back (b ∷ bs) own = (b.1, value_in own b.0) ∷ handed_back bs own

-- one turn; the call is told, and each parameter is stored in an empty environment
abbrev pub enter : (body : ℕ) → Option Procedure → Arguments → List (Option Datum) → List Frame → Core → Move Core
enter body None all vs work c = Halts Stuck
enter body (Some p) all vs work c =
    turn c (λ d. Moves [] (Called (line_of work) p.name ∷ [])
    (record d {
      shared = record d.shared { own = [] };
      hand = Execute p.body;
      work = InCall (Activation p.name (hand_backs body p.parameters all) d.shared.own) ∷ work;
    })
    (line_of work) (bindings body p.parameters vs))

-- the next argument from left to right, or the call
abbrev pub arguments : Program → ℕ → Arguments → List (Option Datum) → Arguments → List Frame → Core → Move Core
arguments p f all got no_argument work c = enter (suc f) (slice_get p.procedures f) all (reverse got) work c
arguments p f all got (rd_argument e rest) work c = go (Evaluate e) (InCall (Argument f all got rest) ∷ work) c
arguments p f all got (wr_argument x rest) work c = go (Result None) (InCall (Argument f all got rest) ∷ work) c
arguments p f all got (rw_argument x rest) work c = go (Result (read_variable x c.shared)) (InCall (Argument f all got rest) ∷ work) c

-- the return of a procedure with a result: it is told, the caller's own variables are there again, and the parameters
-- are handed back
abbrev pub leave : List ℕ → HandBacks → Environment → Option Datum → List Frame → Core → Move Core
leave name backs own v work c =
    Moves [] (Returned name ∷ [])
    (record c {
      shared = record c.shared { own = own };
      hand = Result v;
      work = Storing (handed_back backs c.shared.own) ∷ work;
    })
    0 []

-- an argument's result, or the result of a procedure
abbrev pub result_in_call : Program → CallFrame → Option Datum → List Frame → Core → Move Core
result_in_call p (Argument f all got rest) v work c = arguments p f all (v ∷ got) rest work c
result_in_call p (Activation name backs own) v work c = leave name backs own v work c
