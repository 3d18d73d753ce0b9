-- Steps and runs with fewer and with more turns left.
use Rattle.std.proofs.Common.{◌≡◌, refl, sym, ap, ◌∙◌, subst, ℕ, zero, suc, Bool, true, false, List, [], ◌∷◌, ◌++◌, append_assoc, append-nil, Option}
use Rattle.std.specs.Prelude.{◌≤◌}
use Rattle.setl_value.specs.Datum.{Datum}
use Rattle.setl_program.specs.Program.{Program}
use Rattle.setl_model_runs.specs.Variable.{Global, Own, Bound}
use Rattle.setl_model_runs.specs.Events.{Event, End, Done, Stopped, Unfit, Spent, Stuck}
use Rattle.setl_model_runs.specs.Run.{Store, Move, Moves, Halts, State, Next, Goes, Ends, Test, stored, if_fits, store_all, settle, step, and_then, run}
use Rattle.setl_model.specs.Core.{Hand, Execute, Evaluate, Result, Iterate, Frame, InExpr, InIteration, InCall, InStmt, Storing, Then, Core, line_of}
use Rattle.setl_model.specs.Step.{store_next, result, move_by, language}
use Rattle.setl_model_turns.specs.Laws.{with_turns, HasMoreTurns}
use Rattle.setl_model_turns.proofs.Moves.{Follows, GoesOn, storing}
use Rattle.setl_model_turns.proofs.Iterations.{iterating, iteration_goes_on}
use Rattle.setl_model_turns.proofs.Expressions.{evaluating, expr_goes_on, call_goes_on}
use Rattle.setl_model_turns.proofs.Statements.{executing, stmt_goes_on}

-- ---- moves

storing_next : (xs : List Store) (v : Option Datum) (work : List Frame) → GoesOn (store_next xs v work)
storing_next [] v work c n h = (n, h, refl)
storing_next (x ∷ xs) v work c n h = storing (line_of work) x.0 x.1 (Result v) (Storing xs ∷ work) c n h

result_goes_on : (p : Program) (v : Option Datum) (work : List Frame) → GoesOn (result p v work)
result_goes_on p v (InExpr f ∷ work) c n h = expr_goes_on f v work c n h
result_goes_on p v (InIteration f i ∷ work) c n h = iteration_goes_on f v i work c n h
result_goes_on p v (InCall f ∷ work) c n h = call_goes_on p f v work c n h
result_goes_on p v (InStmt line f ∷ work) c n h = stmt_goes_on line f v work c n h
result_goes_on p v (Storing xs ∷ work) c n h = storing_next xs v work c n h
result_goes_on p v (Then b ∷ work) c n h = refl
result_goes_on p v [] c n h = refl

move_goes_on : (p : Program) (hand : Hand) → GoesOn (move_by p hand)
move_goes_on p (Execute b) c n h = executing b c.work c n h
move_goes_on p (Evaluate e) c n h = evaluating p e c.work c n h
move_goes_on p (Result v) c n h = result_goes_on p v c.work c n h
move_goes_on p Iterate c n h = iterating c.work c n h

-- ---- steps

-- the state with so many turns left
abbrev richer : ℕ → State Core → State Core
richer n s = record s { core = with_turns n s.core }

-- The second comes after a state with more turns left where the first comes after one with fewer: a state with more turns,
-- the same end, or anything where turns were spent.
abbrev pub KeepsLast : End → State Core → Next Core → Type 0
KeepsLast Spent s y = Unit {0}
KeepsLast e s y = (t : State Core) × (y ≡ Ends e t) × HasMoreTurns s t

abbrev pub Comes : Next Core → Next Core → Type 0
Comes (Goes s) y = (t : State Core) × (y ≡ Goes t) × HasMoreTurns s t
Comes (Ends e s) y = KeepsLast e s y

module _ (p : Program) (test : Test) where
  -- a store in a core with more turns left
  stored_richer : (line : ℕ) (x : Store) (s : State Core) (n : ℕ) → stored (language p) line x (richer n s) ≡ richer n (stored (language p) line x s)
  stored_richer line (Global name, v) s n = refl
  stored_richer line (Own body name, v) s n = refl
  stored_richer line (Bound former name, v) s n = refl

  stored_left : (line : ℕ) (x : Store) (s : State Core) → (stored (language p) line x s).core.shared.world.left ≡ s.core.shared.world.left
  stored_left line (Global name, v) s = refl
  stored_left line (Own body name, v) s = refl
  stored_left line (Bound former name, v) s = refl

  stores_come : (line : ℕ) (xs : List Store) (s : State Core) (n : ℕ) → s.core.shared.world.left ≤ n → Comes (store_all (language p) test line xs s) (store_all (language p) test line xs (richer n s))
  stores_come line [] s n h = (richer n s, refl, (n, h, refl))
  stores_come line (x ∷ xs) s n h = split (test x.0 x.1) (stores_come line xs (stored (language p) line x s) n (subst (λ k. k ≤ n) (sym (stored_left line x s)) h))
    where
      split : (b : Bool) → Comes (store_all (language p) test line xs (stored (language p) line x s)) (store_all (language p) test line xs (richer n (stored (language p) line x s))) → Comes (if_fits b (store_all (language p) test line xs (stored (language p) line x s)) (Stopped (Unfit x.0) line) s) (if_fits b (store_all (language p) test line xs (stored (language p) line x (richer n s))) (Stopped (Unfit x.0) line) (richer n s))
      split true later = rw (stored_richer line x s n) (later)
      split false later = (richer n s, refl, (n, h, refl))

  settle_comes : (s : State Core) (n : ℕ) → s.core.shared.world.left ≤ n → (m m' : Move Core) → Follows m m' → Comes (settle (language p) test s m) (settle (language p) test (richer n s) m')
  settle_comes s n h (Moves said told to line xs) m' (k, l, e) = rw (e) (stores_come line xs (record { core = to; out = s.out ++ said; events = s.events ++ told }) k l)
  settle_comes s n h (Halts Done) m' e = rw (e) ((richer n s, refl, (n, h, refl)))
  settle_comes s n h (Halts (Stopped why line)) m' e = rw (e) ((richer n s, refl, (n, h, refl)))
  settle_comes s n h (Halts Stuck) m' e = rw (e) ((richer n s, refl, (n, h, refl)))
  settle_comes s n h (Halts Spent) m' e = tt

  step_comes : (s t : State Core) → HasMoreTurns s t → Comes (step (language p) test s) (step (language p) test t)
  step_comes s t (n, h, e) = rw (e) (settle_comes s n h _ _ (move_goes_on p s.core.hand s.core n h))

  -- ---- runs

  pub run_comes : (k : ℕ) (s t : State Core) → HasMoreTurns s t → Comes (run (language p) test k s) (run (language p) test k t)
  run_comes zero s t h = (t, refl, h)
  run_comes (suc k) s t h = joins (step (language p) test s) (step (language p) test t) (step_comes s t h) (λ a b more. run_comes k a b more)
    where
      joins : (x y : Next Core) → Comes x y → ((a b : State Core) → HasMoreTurns a b → Comes (run (language p) test k a) (run (language p) test k b)) → Comes (and_then x (run (language p) test k)) (and_then y (run (language p) test k))
      joins (Goes a) y (b, e, more) later = rw e (later a b more)
      joins (Ends Done a) y (b, e, more) later = rw e (b, refl, more)
      joins (Ends (Stopped why line) a) y (b, e, more) later = rw e (b, refl, more)
      joins (Ends Stuck a) y (b, e, more) later = rw e (b, refl, more)
      joins (Ends Spent a) y h later = tt

  -- what ends for want of turns ends at the state before its last step
  settle_spent : (s l : State Core) (m : Move Core) → settle (language p) test s m ≡ Ends Spent l → l ≡ s
  settle_spent s l (Halts e) h = cc
  settle_spent s l (Moves said told to line xs) h = absurd (goes_or_stops xs (record { core = to; out = s.out ++ said; events = s.events ++ told }) h)
    where
      goes_or_stops : (xs : List Store) (a : State Core) → store_all (language p) test line xs a ≡ Ends Spent l → ⊥
      goes_or_stops [] a h = cc
      goes_or_stops (x ∷ xs) a h = split (test x.0 x.1) h (goes_or_stops xs (stored (language p) line x a))
        where
          split : (b : Bool) → if_fits b (store_all (language p) test line xs (stored (language p) line x a)) (Stopped (Unfit x.0) line) a ≡ Ends Spent l → (store_all (language p) test line xs (stored (language p) line x a) ≡ Ends Spent l → ⊥) → ⊥
          split true h k = k h
          split false h k = cc

  -- with more turns a run passes the state at which these were spent
  pub passes : (k : ℕ) (s t l : State Core) → HasMoreTurns s t → run (language p) test k s ≡ Ends Spent l → (j : ℕ) × (u : State Core) × (run (language p) test j t ≡ Goes u) × HasMoreTurns l u
  passes zero s t l h e = cc
  passes (suc k) s t l h e = from (step (language p) test s) refl e (step_comes s t h) (λ a b more. passes k a b l more)
    where
      from : (x : Next Core) → step (language p) test s ≡ x → and_then x (run (language p) test k) ≡ Ends Spent l → Comes x (step (language p) test t) →
          ((a b : State Core) → HasMoreTurns a b → run (language p) test k a ≡ Ends Spent l → (j : ℕ) × (u : State Core) × (run (language p) test j b ≡ Goes u) × HasMoreTurns l u) → (j : ℕ) × (u : State Core) × (run (language p) test j t ≡ Goes u) × HasMoreTurns l u
      from (Goes a) own e (b, goes, more) on =
          let later = on a b more e in
          (suc later.0, later.1, ap (λ y. and_then y (run (language p) test later.0)) goes ∙ later.2, later.3)
      from (Ends end a) own e come on =
          let last : a ≡ l = cc in
          let is_spent : end ≡ Spent = cc in
          let same : l ≡ s = settle_spent s l _ (own ∙ rw (is_spent, last)) in
          (0, t, refl, rw same h)

-- ---- events

-- the second state has the events of the first and perhaps more behind them
abbrev Adds : State Core → State Core → Type 0
Adds a b = (more : List Event) × (b.events ≡ a.events ++ more)

abbrev AddsTo : State Core → Next Core → Type 0
AddsTo a (Goes b) = Adds a b
AddsTo a (Ends e b) = Adds a b

adds_none : (a : State Core) → Adds a a
adds_none a = ([], sym (append-nil a.events))

adds_both : (a b c : State Core) → Adds a b → Adds b c → Adds a c
adds_both a b c (xs, g) (ys, h) = (xs ++ ys, h ∙ ap (λ o. o ++ ys) g ∙ append_assoc a.events xs ys)

adds_to : (a b : State Core) (n : Next Core) → Adds a b → AddsTo b n → AddsTo a n
adds_to a b (Goes c) g h = adds_both a b c g h
adds_to a b (Ends e c) g h = adds_both a b c g h

module _ (p : Program) (test : Test) where
  stores_add : (line : ℕ) (xs : List Store) (a : State Core) → AddsTo a (store_all (language p) test line xs a)
  stores_add line [] a = adds_none a
  stores_add line (x ∷ xs) a = split (test x.0 x.1) (stores_add line xs (stored (language p) line x a))
    where
      split : (b : Bool) → AddsTo (stored (language p) line x a) (store_all (language p) test line xs (stored (language p) line x a)) → AddsTo a (if_fits b (store_all (language p) test line xs (stored (language p) line x a)) (Stopped (Unfit x.0) line) a)
      split true later = adds_to a (stored (language p) line x a) _ (_, refl) later
      split false later = adds_none a

  settle_adds : (a : State Core) (m : Move Core) → AddsTo a (settle (language p) test a m)
  settle_adds a (Moves said told to line xs) = adds_to a (record { core = to; out = a.out ++ said; events = a.events ++ told }) _ (told, refl) (stores_add line xs _)
  settle_adds a (Halts e) = adds_none a

  run_adds : (k : ℕ) (a : State Core) → AddsTo a (run (language p) test k a)
  run_adds zero a = adds_none a
  run_adds (suc k) a = from (step (language p) test a) (settle_adds a _) (run_adds k)
    where
      from : (x : Next Core) → AddsTo a x → ((b : State Core) → AddsTo b (run (language p) test k b)) → AddsTo a (and_then x (run (language p) test k))
      from (Goes b) g later = adds_to a b _ g (later b)
      from (Ends e b) g later = g

  -- a run that passes a state goes on from it to its end
  pub goes_on_to_end : (j k : ℕ) (a u l : State Core) (e : End) → run (language p) test j a ≡ Goes u → run (language p) test k a ≡ Ends e l → (i : ℕ) × (run (language p) test i u ≡ Ends e l)
  goes_on_to_end zero k a u l e h g = let same : a ≡ u = cc in (k, ap (run (language p) test k) (sym same) ∙ g)
  goes_on_to_end (suc j) zero a u l e h g = cc
  goes_on_to_end (suc j) (suc k) a u l e h g = from (step (language p) test a) h g (λ b. goes_on_to_end j k b u l e)
    where
      from : (x : Next Core) → and_then x (run (language p) test j) ≡ Goes u → and_then x (run (language p) test k) ≡ Ends e l → ((b : State Core) → run (language p) test j b ≡ Goes u → run (language p) test k b ≡ Ends e l → (i : ℕ) × (run (language p) test i u ≡ Ends e l)) → (i : ℕ) × (run (language p) test i u ≡ Ends e l)
      from (Goes b) h g later = later b h g
      from (Ends f b) h g later = cc

  -- and its events stand at the front of those of the end
  pub adds_until_end : (j k : ℕ) (a u l : State Core) (e : End) → run (language p) test j a ≡ Goes u → run (language p) test k a ≡ Ends e l → Adds u l
  adds_until_end j k a u l e h g =
      let later = goes_on_to_end j k a u l e h g in
      subst (AddsTo u) later.1 (run_adds later.0 u)

  -- a run has one end
  pub one_end : (j k : ℕ) (a l m : State Core) (e f : End) → run (language p) test j a ≡ Ends e l → run (language p) test k a ≡ Ends f m → Ends e l ≡ Ends f m
  one_end zero k a l m e f h g = cc
  one_end (suc j) zero a l m e f h g = cc
  one_end (suc j) (suc k) a l m e f h g = from (step (language p) test a) h g (λ b. one_end j k b l m e f)
    where
      from : (x : Next Core) → and_then x (run (language p) test j) ≡ Ends e l → and_then x (run (language p) test k) ≡ Ends f m → ((b : State Core) → run (language p) test j b ≡ Ends e l → run (language p) test k b ≡ Ends f m → Ends e l ≡ Ends f m) → Ends e l ≡ Ends f m
      from (Goes b) h g later = later b h g
      from (Ends d b) h g later = sym h ∙ g
