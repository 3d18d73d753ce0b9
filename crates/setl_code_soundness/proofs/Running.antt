-- Runs of sound code end, and aren't stuck.
use Rattle.std.proofs.Common.{◌≡◌, ◌<◌, ℕ, zero, suc, Bool, true, false, List, [], ◌∷◌, ◌++◌, length, Option, Some, None, refl, ap, ◌∙◌, subst, arith}
use Rattle.std.specs.Prelude.{slice_get, IsSome}
use Rattle.setl_model_runs.specs.Variable.{Variable, Global, Own, Bound}
use Rattle.setl_model_runs.specs.Events.{Unfit, End, Stopped, Stuck}
use Rattle.setl_model_runs.specs.Run.{Store, Move, Moves, Halts, State, Next, Goes, Ends, Test, if_fits, stored, store_all, settle, step, and_then, run}
use Rattle.setl_model.specs.Step.{test_of}
use Rattle.setl_code.specs.Code.{Instr, Push, PushAtom, PushEof, Load, Take, StoreIn, Operate, Alter, Decides, TestBool, Unless, Jump, DropTop, DupTop, PartsOf, BeginOver, NextOr, BeginOf, AddBelow, LeaveAll, PayRound, CallBody, ReturnTop, KeepAll, GoBack, ForgetKept, PrintTop, ReadOne, StopRun, Step, Body, Code}
use Rattle.setl_code.specs.Piece.{Is}
use Rattle.setl_code.specs.CodeCore.{Gone, variables_of, CodeCore, held}
use Rattle.setl_code.specs.Machine.{do_instr, body_steps, machine}
use Rattle.setl_code.specs.CodeMeans.{main_slots, code_first}
use Rattle.setl_code.specs.Shapes.{Shape, Outs}
use Rattle.setl_code.specs.Sound.{Table, shape_at, is_fine, is_read}
use Rattle.setl_code.specs.Ready.{Ready}
use Rattle.setl_code_soundness.specs.Claims.{IsNotStuck, GoesOn, StartsReady, StaysReady, ReachedAreReady, ReadyFinds, EveryCodeRunEnds, NoCodeIsStuck}
use Rattle.setl_code_soundness.proofs.Moving.{not_taken, write_all, takes_turn, returns, moves_on, height, Leads, FineMove}
use Rattle.setl_code_soundness.proofs.Instructions.{T, Here, fine, here, push_fine, eof_fine, atom_fine, load_fine, begin_of_fine, read_fine, store_fine, drop_fine, dup_fine, operate_fine, print_fine, parts_fine, jump_fine, test_fine, unless_fine, decides_fine, alter_fine, begin_fine, next_fine, add_fine, leave_fine, round_fine}
use Rattle.setl_code_soundness.proofs.Calling.{NoneGone, all_there, call_fine, return_fine, keep_fine, back_fine, forget_fine, take_fine}

-- a place that the table of a body knows has a step
step_there : (T : Table) (ss : List Step) (at : ℕ) (s : Shape) → length T ≡ length ss → shape_at T at ≡ Some s → (st : Step) × (slice_get ss at ≡ Some st)
step_there [] ss at s long is = cc
step_there (t ∷ T) [] at s long is = absurd (omega arith)
step_there (t ∷ T) (st ∷ ss) zero s long is = (st, refl)
step_there (t ∷ T) (st ∷ ss) (suc at) s long is = let less : length T ≡ length ss = omega arith in step_there T ss at s less is

module _ (c : Code) (declared : List Variable) where
  -- ---- one step

  instr_fine : (i : Instr) (k : CodeCore) (r : Ready c declared k) (line : ℕ) → Here c declared k r line i → FineMove c declared k r (do_instr c line i k)
  instr_fine (Push v) k r line is = push_fine c declared k r line v is
  instr_fine PushAtom k r line is = atom_fine c declared k r line is
  instr_fine PushEof k r line is = eof_fine c declared k r line is
  instr_fine (Load x) k r line is = load_fine c declared k r line x is
  instr_fine (Take x) k r line is = take_fine c declared k r line x is
  instr_fine (StoreIn x) k r line is = store_fine c declared k r line x is
  instr_fine (Operate o n) k r line is = operate_fine c declared k r line o n is
  instr_fine (Alter a x bs) k r line is = alter_fine c declared k r line a x bs is
  instr_fine (Decides o to) k r line is = decides_fine c declared k r line o to is
  instr_fine TestBool k r line is = test_fine c declared k r line is
  instr_fine (Unless to) k r line is = unless_fine c declared k r line to is
  instr_fine (Jump to) k r line is = jump_fine c declared k r line to is
  instr_fine DropTop k r line is = drop_fine c declared k r line is
  instr_fine DupTop k r line is = dup_fine c declared k r line is
  instr_fine (PartsOf n) k r line is = parts_fine c declared k r line n is
  instr_fine (BeginOver b n) k r line is = begin_fine c declared k r line b n is
  instr_fine (NextOr to) k r line is = next_fine c declared k r line to is
  instr_fine (BeginOf o) k r line is = begin_of_fine c declared k r line o is
  instr_fine (AddBelow n) k r line is = add_fine c declared k r line n is
  instr_fine (LeaveAll n) k r line is = leave_fine c declared k r line n is
  instr_fine PayRound k r line is = round_fine c declared k r line is
  instr_fine (CallBody n) k r line is = call_fine c declared k r line n is
  instr_fine ReturnTop k r line is = return_fine c declared k r line is
  instr_fine KeepAll k r line is = keep_fine c declared k r line is
  instr_fine GoBack k r line is = back_fine c declared k r line is
  instr_fine ForgetKept k r line is = forget_fine c declared k r line is
  instr_fine (PrintTop n) k r line is = print_fine c declared k r line n is
  instr_fine ReadOne k r line is = read_fine c declared k r line is
  instr_fine StopRun k r line is = tt

  move_fine : (k : CodeCore) (r : Ready c declared k) → FineMove c declared k r ((machine c).move k)
  move_fine k r =
      let st = step_there r.now.sound.table r.now.body.steps k.now.at r.now.shape r.now.sound.whole r.now.reached in
      let fetched : slice_get (body_steps (slice_get c.bodies k.now.body)) k.now.at ≡ Some st.0 = ap (λ b. slice_get (body_steps b) k.now.at) r.now.is ∙ st.1 in
      rw fetched (instr_fine st.0.1 k r st.0.0 st.1)

  -- what comes next leads on, or is an end that isn't stuck
  abbrev LeadsOn : (k : CodeCore) → Ready c declared k → Next CodeCore → Type 0
  LeadsOn k r (Goes t) = Leads c declared k r t.core
  LeadsOn k r (Ends e t) = IsNotStuck e

  all_stored : (test : Test) (k : CodeCore) (r : Ready c declared k) (line : ℕ) (xs : List Store) (s : State CodeCore) → Leads c declared k r (write_all xs s.core) → LeadsOn k r (store_all (machine c) test line xs s)
  all_stored test k r line [] s h = h
  all_stored test k r line (x ∷ xs) s h = go (test x.0 x.1) (all_stored test k r line xs (stored (machine c) line x s) h)
    where
      go : (b : Bool) → LeadsOn k r (store_all (machine c) test line xs (stored (machine c) line x s)) → LeadsOn k r (if_fits b (store_all (machine c) test line xs (stored (machine c) line x s)) (Stopped (Unfit x.0) line) s)
      go true fits = fits
      go false fits = tt

  settled : (test : Test) (k : CodeCore) (r : Ready c declared k) (m : Move CodeCore) (s : State CodeCore) → FineMove c declared k r m → LeadsOn k r (settle (machine c) test s m)
  settled test k r (Moves said told to line xs) s h = all_stored test k r line xs (record { core = to; out = s.out ++ said; events = s.events ++ told }) h
  settled test k r (Halts e) s h = h

  stepped : (test : Test) (s : State CodeCore) (r : Ready c declared s.core) → LeadsOn s.core r (step (machine c) test s)
  stepped test s r = settled test s.core r ((machine c).move s.core) s (move_fine s.core r)

  goes_on : (k : CodeCore) (r : Ready c declared k) (n : Next CodeCore) → LeadsOn k r n → GoesOn c declared n
  goes_on k r (Goes t) h = h.0
  goes_on k r (Ends e t) h = h

  pub stays : (test : Test) (s : State CodeCore) → Ready c declared s.core → GoesOn c declared (step (machine c) test s)
  stays test s r = goes_on s.core r (step (machine c) test s) (stepped test s r)

  -- ---- runs

  -- no run from a ready state is stuck
  pub never_stuck : (test : Test) (n : ℕ) (s t : State CodeCore) (e : End) → Ready c declared s.core → run (machine c) test n s ≡ Ends e t → IsNotStuck e
  never_stuck test zero s t e r h = cc
  never_stuck test (suc n) s t e r h = go (step (machine c) test s) (stays test s r) h (λ u. never_stuck test n u t e)
    where
      go : (x : Next CodeCore) → GoesOn c declared x → and_then x (run (machine c) test n) ≡ Ends e t → ((u : State CodeCore) → Ready c declared u.core → run (machine c) test n u ≡ Ends e t → IsNotStuck e) → IsNotStuck e
      go (Goes u) ready h ih = ih u ready h
      go (Ends f u) fine h ih = let same : f ≡ e = cc in subst IsNotStuck same fine

  -- a run from a ready state goes to ready states
  pub reached : (test : Test) (n : ℕ) (s t : State CodeCore) → Ready c declared s.core → run (machine c) test n s ≡ Goes t → Ready c declared t.core
  reached test zero s t r h = let same : s ≡ t = cc in subst (λ u. Ready c declared u.core) same r
  reached test (suc n) s t r h = go (step (machine c) test s) (stays test s r) h (λ u. reached test n u t)
    where
      go : (x : Next CodeCore) → GoesOn c declared x → and_then x (run (machine c) test n) ≡ Goes t → ((u : State CodeCore) → Ready c declared u.core → run (machine c) test n u ≡ Goes t → Ready c declared t.core) → Ready c declared t.core
      go (Goes u) ready h ih = ih u ready h
      go (Ends f u) fine h ih = cc

  abbrev HasEnd : Test → State CodeCore → Type 0
  HasEnd test s = (n : ℕ) × (e : End) × (t : State CodeCore) × (run (machine c) test n s ≡ Ends e t)

  one_more : (test : Test) (s u : State CodeCore) → step (machine c) test s ≡ Goes u → HasEnd test u → HasEnd test s
  one_more test s u h (n, e, t, is) = (suc n, e, t, ap (λ y. and_then y (run (machine c) test n)) h ∙ is)

  -- by turns, then by the activations that wait, then by height
  module _ (test : Test) (l : ℕ) (fewer_turns : (s : State CodeCore) → Ready c declared s.core → s.core.world.left < l → HasEnd test s) where
    by_height : (n : ℕ) → ((s : State CodeCore) → Ready c declared s.core → s.core.world.left < suc l → length s.core.callers < n → HasEnd test s) → (h : ℕ) (s : State CodeCore) (r : Ready c declared s.core) → s.core.world.left < suc l → length s.core.callers < suc n → height c declared s.core r < h → HasEnd test s
    by_height n fewer_callers zero s r turns callers low = absurd (omega arith)
    by_height n fewer_callers (suc h) s r turns callers low =
        go (step (machine c) test s) refl (stepped test s r) (λ u. by_height n fewer_callers h u)
      where
        go : (x : Next CodeCore) → step (machine c) test s ≡ x → LeadsOn s.core r x → ((u : State CodeCore) (q : Ready c declared u.core) → u.core.world.left < suc l → length u.core.callers < suc n → height c declared u.core q < h → HasEnd test u) → HasEnd test s
        go (Ends e t) is fine ih = (1, e, t, ap (λ y. and_then y (run (machine c) test 0)) is)
        go (Goes u) is (ready, takes_turn less) ih =
            let few : u.core.world.left < l = omega arith in
            one_more test s u is (fewer_turns u ready few)
        go (Goes u) is (ready, returns same less) ih =
            let few : u.core.world.left < suc l = omega arith in
            let back : length u.core.callers < n = omega arith in
            one_more test s u is (fewer_callers u ready few back)
        go (Goes u) is (ready, moves_on same as_many less) ih =
            let few : u.core.world.left < suc l = omega arith in
            let wait : length u.core.callers < suc n = omega arith in
            let down : height c declared u.core ready < h = omega arith in
            one_more test s u is (ih u ready few wait down)

    by_callers : (n : ℕ) (s : State CodeCore) → Ready c declared s.core → s.core.world.left < suc l → length s.core.callers < n → HasEnd test s
    by_callers zero s r turns callers = absurd (omega arith)
    by_callers (suc n) s r turns callers = let low : height c declared s.core r < suc (height c declared s.core r) = omega arith in by_height n (by_callers n) (suc (height c declared s.core r)) s r turns callers low

  by_turns : (test : Test) (l : ℕ) (s : State CodeCore) → Ready c declared s.core → s.core.world.left < l → HasEnd test s
  by_turns test zero s r turns = absurd (omega arith)
  by_turns test (suc l) s r turns =
      let wait : length s.core.callers < suc (length s.core.callers) = omega arith in
      by_callers test l (by_turns test l) (suc (length s.core.callers)) s r turns wait

  pub ends : (test : Test) (s : State CodeCore) → Ready c declared s.core → HasEnd test s
  ends test s r = let few : s.core.world.left < suc s.core.world.left = omega arith in by_turns test (suc s.core.world.left) s r few

-- ---- the laws

first_body : (bs : List Body) → 0 < length bs → (b : Body) × (slice_get bs 0 ≡ Some b)
first_body [] h = absurd (omega arith)
first_body (b ∷ bs) h = (b, refl)

main_there : (o : Option Body) → NoneGone (main_slots o)
main_there None y gone = cc
main_there (Some b) y gone = all_there (variables_of 0 b) y gone

pub starts_ready : StartsReady
starts_ready c declared sound input turns =
    let main = first_body c.bodies sound.main in
    let body = sound.bodies 0 main.0 main.1 in
    record {
      sound = sound;
      globals = all_there c.vars;
      now = record { body = main.0; is = main.1; sound = body; shape = []; reached = body.starts; below = []; operands = tt; fits = refl; taken = λ x mine gone. absurd (main_there (slice_get c.bodies 0) x gone) };
      callers = refl;
      kept = tt;
    }

pub stays_ready : StaysReady
stays_ready c declared modes based s r = stays c declared (test_of modes based) s r

pub every_code_run_ends : EveryCodeRunEnds
every_code_run_ends c declared sound modes input turns based =
    let all = ends c declared (test_of modes based) (code_first c input turns) (starts_ready c declared sound input turns) in
    record { out = all.2.out; end = all.1; means = record { steps = all.0; last = all.2; ends = all.3; written = refl } }

pub no_code_is_stuck : NoCodeIsStuck
no_code_is_stuck c declared sound modes input turns based out means = never_stuck c declared (test_of modes based) means.steps (code_first c input turns) means.last Stuck (starts_ready c declared sound input turns) means.ends

pub reached_are_ready : ReachedAreReady
reached_are_ready c declared sound modes input turns based n s h = reached c declared (test_of modes based) n (code_first c input turns) s (starts_ready c declared sound input turns) h

-- what is fine pops what it needs
some_outs : (table : Table) (o : Outs) → is_fine table o ≡ true → IsSome o
some_outs table None h = cc
some_outs table (Some os) h = refl

pub ready_finds : ReadyFinds
ready_finds c declared k r =
    let st = step_there r.now.sound.table r.now.body.steps k.now.at r.now.shape r.now.sound.whole r.now.reached in
    let is : Is r.now.body.steps k.now.at st.0.0 st.0.1 = st.1 in
    record {
      body = r.now.body;
      has = r.now.is;
      line = st.0.0;
      instr = st.0.1;
      is = is;
      shape = r.now.shape;
      operands = here c declared k r st.0.0;
      takes = some_outs (T c declared k r st.0.0) _ (fine c declared k r st.0.0 st.0.1 is);
      reads = λ x. read x st.0.0 st.0.1 is;
    }
  where
    read : (x : Variable) (line : ℕ) (i : Instr) → Is r.now.body.steps k.now.at line i → is_read k.now.body r.now.body i x ≡ true → held x k ≡ Gone → ⊥
    read (Global name) line i is reads_ gone = r.globals (Global name) gone
    read (Own body name) line i is reads_ gone = not_taken c declared k r line i is (Own body name) reads_ tt gone
    read (Bound former name) line i is reads_ gone = not_taken c declared k r line i is (Bound former name) reads_ tt gone
