-- Each reached state has each value in its flow.
use Rattle.std.proofs.Common.{◌≡◌, sym, subst, ℕ, zero, suc, Bool, true, List, [], ◌∷◌, Option}
use Rattle.std.specs.Prelude.{◌++◌}
use Rattle.setl_value.specs.Datum.{Datum}
use Rattle.setl_model_runs.specs.Variable.{Variable}
use Rattle.setl_model_runs.specs.Events.{Unfit, End, Stopped}
use Rattle.setl_model_runs.specs.Run.{Store, Move, Moves, Halts, State, Next, Goes, Ends, Test, stored, if_fits, store_all, settle, step, run, and_then}
use Rattle.setl_program.specs.Program.{Program}
use Rattle.setl_model.specs.Core.{Hand, Execute, Evaluate, Result, Iterate, Frame, InExpr, InIteration, InCall, InStmt, Storing, Then, Argument, Activation, Core, line_of}
use Rattle.setl_model.specs.Step.{store_next, result, move_by, language, test_of}
use Rattle.setl_model.specs.Means.{first, Reaches}
use Rattle.setl_advise_flows.specs.Flow.{Flow, Any}
use Rattle.setl_advise_flows.specs.Has.{HasAt}
use Rattle.setl_advise_flows.specs.Operators.{Shape, HasShape, OperatorsIn}
use Rattle.setl_advise_flows.specs.Expressions.{Flows, Solves}
use Rattle.setl_advise_flows.specs.Invariant.{StoresIn, Waits, HandIn, CoreIn, FitsAtEnd, MoveIn}
use Rattle.setl_advise_flows.proofs.Moving.{going, stores, written, empty_in}
use Rattle.setl_advise_flows.proofs.Iterations.{ItemsIn, CollectionsIn, iterates, iteration_takes}
use Rattle.setl_advise_flows.proofs.Places.{TakesIn}
use Rattle.setl_advise_flows.proofs.Expressions.{evaluates, expr_takes, passes, leaves}
use Rattle.setl_advise_flows.proofs.Statements.{executes, stmt_takes}

module _ (p : Program) (s : Flows) (solves : Solves p s) (ops : OperatorsIn) (takes : TakesIn) (items_in : ItemsIn s) (collects : CollectionsIn) where
  stores_next : (xs : List Store) (v : Option Datum) (w : Shape) (due : Bool) (r : Flow) (work : List Frame) (c : Core) → CoreIn p s c → HasShape w v → StoresIn s xs → Waits p s r due w work → MoveIn p s (store_next xs v work c)
  stores_next [] v w due r work c h y x a = going p s c h r (Result v) work (w, y, (due, a))
  stores_next (x ∷ xs) v w due r work c h y k a = stores p s (line_of work) x.0 x.1 c h r (Result v) (Storing xs ∷ work) k.0 (w, y, (due, (k.1, a)))

  results : (work : List Frame) (v : Option Datum) (w : Shape) (due : Bool) (r : Flow) (c : Core) → CoreIn p s c → HasShape w v → Waits p s r due w work → MoveIn p s (result p v work c)
  results [] v w due r c h y a = tt
  results (InExpr f ∷ work) v w due r c h y a = expr_takes p s solves ops items_in collects f v w a.0 r work c h a.1 y a.2
  results (InIteration f i ∷ work) v w due r c h y a = iteration_takes p s items_in collects f v i w due r a.1 a.2 work c h (a.0, a.4, a.5) a.3 y
  results (InCall (Argument f all got rest) ∷ work) v w due r c h y a =
      passes p s solves ops items_in collects rest f all (w ∷ a.0) (v ∷ got) a.1 r work c h (y, a.2) a.3 a.4 a.5 a.6
  results (InCall (Activation name backs own) ∷ work) v w due r c h y a =
      leaves p s solves ops items_in collects name backs own v a.1 r a.0 work c h a.4 a.5 (a.3 v (a.2 v y)) a.6
  results (InStmt line f ∷ work) v w due r c h y a = stmt_takes p s solves ops takes items_in collects f line v w r work c h a.0 y a.1
  results (Storing xs ∷ work) v w due r c h y a = stores_next xs v w due r work c h y a.0 a.1
  results (Then b ∷ work) v w due r c h y a = tt

  pub moves : (c : Core) → CoreIn p s c → MoveIn p s (move_by p c.hand c)
  moves c h = by_hand c.hand h.hand
    where
      by_hand : (d : Hand) → HandIn p s h.result d c.work → MoveIn p s (move_by p d c)
      by_hand (Execute b) k = executes p s solves ops takes items_in collects b h.result c.work c h k.0 k.1
      by_hand (Evaluate e) k = evaluates p s solves ops items_in collects e k.0 h.result c.work c h k.1 k.2 k.3
      by_hand (Result v) k = results c.work v k.0 k.2.0 h.result c h k.1 k.2.1
      by_hand Iterate k = iterates p s items_in collects c.work h.result c h k

  -- ---- runs, by any test that lets through what is in the flows

  abbrev pub Lets : Test → Type 0
  Lets test = (x : Variable) (v : Option Datum) → HasAt (s.of x) v → test x v ≡ true

  -- after a step each value is in its flow, or the run ended, and not for a value that doesn't fit
  abbrev pub NextIn : Next Core → Type 0
  NextIn (Goes a) = CoreIn p s a.core
  NextIn (Ends e a) = FitsAtEnd e × CoreIn p s a.core

  makes : (test : Test) → Lets test → (line : ℕ) (xs : List Store) (a : State Core) → CoreIn p s a.core → StoresIn s xs → NextIn (store_all (language p) test line xs a)
  makes test lets line [] a h k = h
  makes test lets line (x ∷ xs) a h k =
      subst (λ b. NextIn (if_fits b (store_all (language p) test line xs (stored (language p) line x a)) (Stopped (Unfit x.0) line) a)) (sym (lets x.0 x.1 k.0))
      (makes test lets line xs (stored (language p) line x a) (written p s a.core h x.0 x.1 k.0) k.1)

  settles : (test : Test) → Lets test → (a : State Core) → CoreIn p s a.core → (m : Move Core) → MoveIn p s m → NextIn (settle (language p) test a m)
  settles test lets a h (Moves said told to line xs) k = makes test lets line xs (record { core = to; out = a.out ++ said; events = a.events ++ told }) k.0 k.1
  settles test lets a h (Halts e) k = (k, h)

  on : (next : Next Core) (k : State Core → Next Core) → NextIn next → ((b : State Core) → CoreIn p s b.core → NextIn (k b)) → NextIn (and_then next k)
  on (Goes b) k x go = go b x
  on (Ends e b) k x go = x

  runs : (test : Test) → Lets test → (n : ℕ) (a : State Core) → CoreIn p s a.core → NextIn (run (language p) test n a)
  runs test lets zero a h = h
  runs test lets (suc n) a h =
      on (step (language p) test a) (run (language p) test n) (settles test lets a h (move_by p a.core.hand a.core) (moves a.core h)) (λ b k. runs test lets n b k)

  pub starts_in : (input : List ℕ) (turns : ℕ) → CoreIn p s (first p input turns).core
  starts_in input turns = record { globals = empty_in s; own = empty_in s; result = Any; hand = (solves.main, tt); kept = tt }

  -- each reached state has each value in its flow
  pub reached_in : (input : List ℕ) (turns : ℕ) (based : Bool) → Lets (test_of p.modes based) → (a : State Core) → Reaches p input turns based a → CoreIn p s a.core
  reached_in input turns based lets a h = subst NextIn h.1 (runs (test_of p.modes based) lets h.0 (first p input turns) (starts_in input turns))

  -- no run ends for a value that doesn't fit, where the modes let through what is in the flows
  pub no_end_unfit : (input : List ℕ) (turns : ℕ) (based : Bool) → Lets (test_of p.modes based) → (n : ℕ) (e : End) (a : State Core) →
      run (language p) (test_of p.modes based) n (first p input turns) ≡ Ends e a → FitsAtEnd e
  no_end_unfit input turns based lets n e a h = (subst NextIn h (runs (test_of p.modes based) lets n (first p input turns) (starts_in input turns))).0
