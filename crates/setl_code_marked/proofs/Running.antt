-- Runs of a code and of its marked code are alike.
use Rattle.std.proofs.Common.{◌≡◌, ℕ, zero, suc, Bool, true, false, List, [], ◌∷◌, ◌++◌, inl, inr, Option, Some, None, refl, sym, ap, ◌∙◌, subst}
use Rattle.std.specs.Prelude.{slice_get}
use Rattle.setl_model_runs.specs.Variable.{Variable}
use Rattle.setl_model_runs.specs.Events.{Stored, Unfit, End, Stopped}
use Rattle.setl_model_runs.specs.Run.{Store, Move, State, Next, Goes, Ends, Test, stored, if_fits, store_all, settle, step, and_then, run}
use Rattle.setl_model.specs.Step.{test_of}
use Rattle.setl_code.specs.Code.{Instr, Load, Step, Body, Code}
use Rattle.setl_code.specs.Piece.{Is}
use Rattle.setl_code.specs.CodeCore.{Cells, held_in, cleared, CodeCore}
use Rattle.setl_code.specs.Machine.{do_instr, do_step, body_steps, machine}
use Rattle.setl_code.specs.CodeMeans.{main_slots, code_first, CodeMeans}
use Rattle.setl_code_marked.specs.Marked.{LastUse, as_take, Marks, MarksStep, MarksBodies, Marked}
use Rattle.setl_code_marked.specs.Alike.{Takeable, Dead, AlikeCore, AlikeState, AlikeNext}
use Rattle.setl_code_marked.specs.Claims.{MarkedRunsAlike, MarkedMeansAlike}
use Rattle.setl_code_marked.proofs.Cells.{with_stores, write_kept}
use Rattle.setl_code_marked.proofs.Moving.{Both, both, halt, weak, two, last_alike, instr_alike}

module _ (declared : List Variable) (c m : Code) (marking : Marked declared c m) where
  abbrev Alike : CodeCore → CodeCore → Type 0
  Alike k e = AlikeCore (Dead declared c) k e

  abbrev Together : Move CodeCore → Move CodeCore → Type 0
  Together k e = Both declared c m marking k e

  -- ---- one move

  module _ (k e : CodeCore) (alike : Alike k e) where
    abbrev here : CodeCore
    here = two declared c m marking k.globals k.now.body k.now.at k.now.own e.now.own k.callers e.callers k.kept e.kept alike.now.own alike.callers alike.kept k.now.operands k.world

    -- the marked code's core is the code's with other cells
    is_here : here ≡ e
    is_here = λ i. record { globals = sym alike.globals i; now = sym alike.now.same i; callers = e.callers; kept = e.kept; world = sym alike.world i }

    module _ (b : Body) (has : slice_get c.bodies k.now.body ≡ Some b) where
      last : (line : ℕ) (i : Instr) → Is b.steps k.now.at line i → LastUse declared k.now.body b k.now.at i → Together (do_instr c line i k) (do_instr m line (as_take i) here)
      last line (Load x) is h = last_alike declared c m marking k.globals k.now.body k.now.at k.now.own e.now.own k.callers e.callers k.kept e.kept alike.now.own alike.callers alike.kept b has line x is h.0 h.1 k.now.operands k.world
      last line i is h = absurd h

      marked : (line : ℕ) (i j : Instr) → Is b.steps k.now.at line i → Marks declared k.now.body b k.now.at i j → Together (do_instr c line i k) (do_instr m line j here)
      marked line i j is (inl h) = subst (λ (z : Instr). Together (do_instr c line i k) (do_instr m line z here)) (sym h.1) (last line i is h.0)
      marked line i j is (inr h) =
          subst (λ (z : Instr). Together (do_instr c line i k) (do_instr m line z here)) (sym h.1)
          (instr_alike declared c m marking k.globals k.now.body k.now.at k.now.own e.now.own k.callers e.callers k.kept e.kept alike.now.own alike.callers alike.kept b has line i is k.now.operands k.world)

      stepped : (o p : Option Step) → slice_get b.steps k.now.at ≡ o → MarksStep declared k.now.body b k.now.at o p → Together (do_step c o k) (do_step m p here)
      stepped None None is h = halt
      stepped None (Some t) is h = absurd h
      stepped (Some s) None is h = absurd h
      stepped (Some s) (Some t) is h = subst (λ (l : ℕ). Together (do_instr c s.0 s.1 k) (do_instr m l t.1 here)) (sym h.0) (marked s.0 s.1 t.1 is h.1)

    fetched : (o p : Option Body) → slice_get c.bodies k.now.body ≡ o → MarksBodies declared k.now.body o p → Together (do_step c (slice_get (body_steps o) k.now.at) k) (do_step m (slice_get (body_steps p) k.now.at) here)
    fetched None None is h = halt
    fetched None (Some d) is h = absurd h
    fetched (Some b) None is h = absurd h
    fetched (Some b) (Some d) is h = stepped b is (slice_get b.steps k.now.at) (slice_get d.steps k.now.at) refl (h.steps k.now.at)

    moves : Together ((machine c).move k) ((machine m).move e)
    moves =
        subst (λ (z : CodeCore). Together ((machine c).move k) (do_step m (slice_get (body_steps (slice_get m.bodies z.now.body)) z.now.at) z)) is_here
        (fetched (slice_get c.bodies k.now.body) (slice_get m.bodies k.now.body) refl (marking.bodies k.now.body))

  -- ---- steps

  stores_alike : (test : Test) (line : ℕ) (xs : List Store) (a b : State CodeCore) → AlikeState (Takeable declared) a b → Alike (with_stores xs a.core) (with_stores xs b.core) → AlikeNext declared c (store_all (machine c) test line xs a) (store_all (machine m) test line xs b)
  stores_alike test line [] a b same h = record { core = h; out = same.out; events = same.events }
  stores_alike test line (x ∷ xs) a b same h =
      go (test x.0 x.1) (stores_alike test line xs (stored (machine c) line x a) (stored (machine m) line x b) (record { core = write_kept (Takeable declared) x.0 _ a.core b.core same.core; out = same.out; events = ap (λ es. es ++ Stored line x.0 x.1 ∷ []) same.events }) h)
    where
      go : (t : Bool) → AlikeNext declared c (store_all (machine c) test line xs (stored (machine c) line x a)) (store_all (machine m) test line xs (stored (machine m) line x b)) → AlikeNext declared c (if_fits t (store_all (machine c) test line xs (stored (machine c) line x a)) (Stopped (Unfit x.0) line) a) (if_fits t (store_all (machine m) test line xs (stored (machine m) line x b)) (Stopped (Unfit x.0) line) b)
      go true fits = fits
      go false fits = (refl, same)

  settled : (test : Test) (s t : State CodeCore) (k e : Move CodeCore) → Together k e → AlikeState (Dead declared c) s t → AlikeNext declared c (settle (machine c) test s k) (settle (machine m) test t e)
  settled test s t _ _ (both {said} {told} {line} {xs} {k} {e} before behind) same =
      stores_alike test line xs (record { core = k; out = s.out ++ said; events = s.events ++ told }) (record { core = e; out = t.out ++ said; events = t.events ++ told }) (record { core = before; out = ap (λ bs. bs ++ said) same.out; events = ap (λ es. es ++ told) same.events }) behind
  settled test s t _ _ halt same = (refl, record { core = weak declared c m marking s.core t.core same.core; out = same.out; events = same.events })

  stepped_alike : (test : Test) (s t : State CodeCore) → AlikeState (Dead declared c) s t → AlikeNext declared c (step (machine c) test s) (step (machine m) test t)
  stepped_alike test s t same = settled test s t ((machine c).move s.core) ((machine m).move t.core) (moves s.core t.core same.core) same

  runs_alike : (test : Test) (n : ℕ) (s t : State CodeCore) → AlikeState (Dead declared c) s t → AlikeNext declared c (run (machine c) test n s) (run (machine m) test n t)
  runs_alike test zero s t same = same
  runs_alike test (suc n) s t same = go (step (machine c) test s) (step (machine m) test t) (stepped_alike test s t same) (runs_alike test n)
    where
      go : (x y : Next CodeCore) → AlikeNext declared c x y → ((a b : State CodeCore) → AlikeState (Dead declared c) a b → AlikeNext declared c (run (machine c) test n a) (run (machine m) test n b)) → AlikeNext declared c (and_then x (run (machine c) test n)) (and_then y (run (machine m) test n))
      go (Goes a) (Goes b) h ih = ih a b h
      go (Goes a) (Ends f b) h ih = absurd h
      go (Ends f a) (Goes b) h ih = absurd h
      go (Ends f a) (Ends g b) h ih = h

  main_same : (o p : Option Body) → MarksBodies declared 0 o p → main_slots p ≡ main_slots o
  main_same None None h = refl
  main_same None (Some d) h = absurd h
  main_same (Some b) None h = absurd h
  main_same (Some b) (Some d) h = ap (λ (z : Body). main_slots (Some z)) h.rest

  first_alike : (input : List ℕ) (turns : ℕ) → AlikeState (Dead declared c) (code_first c input turns) (code_first m input turns)
  first_alike input turns = record {
    core = record {
      globals = ap cleared marking.vars;
      world = refl;
      now = record { same = refl; own = λ x. inl (ap (λ (o : Cells). held_in o x) (main_same (slice_get c.bodies 0) (slice_get m.bodies 0) (marking.bodies 0))) };
      callers = tt;
      kept = tt;
    };
    out = refl;
    events = refl;
  }

-- ---- the laws

pub marked_runs_alike : MarkedRunsAlike
marked_runs_alike declared c m marking test input turns n = runs_alike declared c m marking test n (code_first c input turns) (code_first m input turns) (first_alike declared c m marking input turns)

-- what ends alike
record EndsToo (y : Next CodeCore) (e : End) (out : List ℕ) : Type 0 where
  state : State CodeCore
  is : y ≡ Ends e state
  written : state.out ≡ out

ends_too : (declared : List Variable) (c : Code) (x y : Next CodeCore) (e : End) (s : State CodeCore) → AlikeNext declared c x y → x ≡ Ends e s → EndsToo y e s.out
ends_too declared c (Goes a) y e s h is = absurd (no is)
  where
    no : Goes a ≡ Ends e s → ⊥
    no q = cc
ends_too declared c (Ends f a) (Goes b) e s h is = absurd h
ends_too declared c (Ends f a) (Ends g b) e s h is =
    let ends : f ≡ e = cc in
    let states : a ≡ s = cc in
    record { state = b; is = ap (λ (z : End). Ends z b) (h.0 ∙ ends); written = h.1.out ∙ ap (λ (z : State CodeCore). z.out) states }

ends_before : (declared : List Variable) (c : Code) (x y : Next CodeCore) (e : End) (s : State CodeCore) → AlikeNext declared c x y → y ≡ Ends e s → EndsToo x e s.out
ends_before declared c x (Goes b) e s h is = absurd (no is)
  where
    no : Goes b ≡ Ends e s → ⊥
    no q = cc
ends_before declared c (Goes a) (Ends g b) e s h is = absurd h
ends_before declared c (Ends f a) (Ends g b) e s h is =
    let ends : g ≡ e = cc in
    let states : b ≡ s = cc in
    record { state = a; is = ap (λ (z : End). Ends z a) (sym h.0 ∙ ends); written = sym h.1.out ∙ ap (λ (z : State CodeCore). z.out) states }

pub marked_means_alike : MarkedMeansAlike
marked_means_alike declared c m marking modes input turns based out end = (there, back)
  where
    there : CodeMeans c modes input turns based out end → CodeMeans m modes input turns based out end
    there h =
        let e = ends_too declared c _ _ end h.last (marked_runs_alike declared c m marking (test_of modes based) input turns h.steps) h.ends in
        record { steps = h.steps; last = e.state; ends = e.is; written = e.written ∙ h.written }

    back : CodeMeans m modes input turns based out end → CodeMeans c modes input turns based out end
    back h =
        let e = ends_before declared c _ _ end h.last (marked_runs_alike declared c m marking (test_of modes based) input turns h.steps) h.ends in
        record { steps = h.steps; last = e.state; ends = e.is; written = e.written ∙ h.written }
