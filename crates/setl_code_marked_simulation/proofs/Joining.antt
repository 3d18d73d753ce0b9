-- From the marked code to the code, and from the code to the program.
use Rattle.std.proofs.Common.{◌≡◌, ◌∙◌, ◌⊎◌, inl, inr, ℕ, Bool, true, List, [], ◌∷◌, Option, Some, None, refl, sym, ap, subst}
use Rattle.std.specs.Prelude.{slice_get}
use Rattle.setl_model_runs.specs.Variable.{Variable, Environment, value_in}
use Rattle.setl_model_runs.specs.Events.{End}
use Rattle.setl_model_runs.specs.Run.{State, Next, Goes, Ends, run}
use Rattle.setl_program.specs.Program.{Program}
use Rattle.setl_model.specs.Core.{Core}
use Rattle.setl_model.specs.Step.{test_of}
use Rattle.setl_code.specs.Code.{Instr, Load, ReadOne, PrintTop, Step, Body, Code}
use Rattle.setl_code.specs.CodeOf.{code_of}
use Rattle.setl_code.specs.CodeCore.{There, Gone, Cells, held_in, popped, CodeCore}
use Rattle.setl_code.specs.CodeCore.{Activation as CodeActivation}
use Rattle.setl_code.specs.Machine.{machine, fetch, body_steps}
use Rattle.setl_code.specs.CodeMeans.{code_first, CodeMeans}
use Rattle.setl_code.specs.Sound.{may_take}
use Rattle.setl_code_simulation.specs.Claims.{Ended, CodeEndsAlike, CodeMeansAlike, CodeEndsInTheSameState, CodeReachesTheSameStates, CodeReadsWhereMeant, CodePrintsWhereMeant}
use Rattle.setl_code_simulation.specs.States as code
use Rattle.setl_code_simulation.specs.States.{Alike, BodyAtWork, bodies_at_work, CodeReaches, IsNext}
use Rattle.setl_code_soundness.specs.Claims.{CodeOfProgramsIsSound}
use Rattle.setl_code_marked.specs.Marked.{as_take, Marks, MarksStep, MarksBodies, Marked}
use Rattle.setl_code_marked.specs.Alike.{Takeable, Dead, SameOrGone, AlikeCells, AlikeActivation, AlikeActivations, AlikeState, AlikeNext}
use Rattle.setl_code_marked.specs.Claims.{MarkedIsSound, MarkedRunsAlike, MarkedMeansAlike}
use Rattle.setl_code_marked_simulation.specs.States.{AlikeButTaken, SameActivations, SameState}
use Rattle.setl_code_marked_simulation.specs.Claims.{MarkedOfProgramsIsSound, RunEnds, MarkedEndsAlike, MarkedMeansWhatTheProgramMeans, MarkedEndsInTheSameState, MarkedReaches, ReachedAlike, MarkedReachesTheSameStates, MarkedReadsWhereMeant, MarkedPrintsWhereMeant}

-- ---- states

module _ (declared : List Variable) (c : Code) (lacks : ℕ → ℕ → Variable → Type 0) (taken : (n at : ℕ) (x : Variable) → lacks n at x → may_take declared x ≡ true) where
  cells_same : (n at : ℕ) (own marked : Cells) (e : Environment) → Alike own e → AlikeCells (lacks n at) own marked → AlikeButTaken declared marked e
  cells_same n at own marked e alike cells x = go (cells x)
    where
      go : SameOrGone (lacks n at x) (held_in own x) (held_in marked x) → (held_in marked x ≡ There (value_in e x)) ⊎ ((held_in marked x ≡ Gone) × (may_take declared x ≡ true))
      go (inl same) = inl (same ∙ alike x)
      go (inr gone) = inr (gone.0, taken n at x gone.1)

  activation_same : (a m : CodeActivation) (b : BodyAtWork) → code.SameActivation c a b → AlikeActivation lacks a m → SameActivations declared c (m ∷ []) (b ∷ [])
  activation_same a m b same alike = (record { body = subst (λ (n : ℕ). code.IsBody c n b.procedure) (sym (ap (λ (z : CodeActivation). z.body) alike.same)) same.body; values = cells_same a.body a.at a.own m.own b.own same.values alike.own }, tt)

  activations_same : (acts ms : List CodeActivation) (bs : List BodyAtWork) → code.SameActivations c acts bs → AlikeActivations lacks acts ms → SameActivations declared c ms bs
  activations_same [] [] [] same alike = tt
  activations_same [] [] (b ∷ bs) same alike = absurd same
  activations_same [] (m ∷ ms) bs same alike = absurd alike
  activations_same (a ∷ acts) [] bs same alike = absurd alike
  activations_same (a ∷ acts) (m ∷ ms) [] same alike = absurd same
  activations_same (a ∷ acts) (m ∷ ms) (b ∷ bs) same alike = ((activation_same a m b same.0 alike.0).0, activations_same acts ms bs same.1 alike.1)

  state_same : (s t : State CodeCore) (u : State Core) → code.SameState c s u → AlikeState lacks s t → SameState declared c t u
  state_same s t u same alike = record {
    core = record {
      world = alike.core.world ∙ same.core.world;
      globals = λ x. ap (λ (g : Cells). held_in g x) alike.core.globals ∙ same.core.globals x;
      activations = activations_same (s.core.now ∷ s.core.callers) (t.core.now ∷ t.core.callers) (bodies_at_work u.core.shared.own u.core.work) same.core.activations (alike.core.now, alike.core.callers);
    };
    out = alike.out ∙ same.out;
    events = alike.events ∙ same.events;
  }

-- ---- runs of both

module _ (declared : List Variable) (c m : Code) (marking : Marked declared c m) where
  record EndsBefore (x : Next CodeCore) (e : End) (t : State CodeCore) : Type 0 where
    state : State CodeCore
    is : x ≡ Ends e state
    alike : AlikeState (Takeable declared) state t

  ends_before : (x y : Next CodeCore) (e : End) (t : State CodeCore) → AlikeNext declared c x y → y ≡ Ends e t → EndsBefore x e t
  ends_before x (Goes b) e t h is = absurd (none is)
    where
      none : Goes b ≡ Ends e t → ⊥
      none q = cc
  ends_before (Goes a) (Ends g b) e t h is = absurd h
  ends_before (Ends f a) (Ends g b) e t h is =
      let ends : g ≡ e = cc in
      let states : b ≡ t = cc in
      record { state = a; is = ap (λ (z : End). Ends z a) (sym h.0 ∙ ends); alike = subst (AlikeState (Takeable declared) a) states h.1 }

  record EndsAfter (y : Next CodeCore) (e : End) (s : State CodeCore) : Type 0 where
    state : State CodeCore
    is : y ≡ Ends e state
    alike : AlikeState (Takeable declared) s state

  ends_after : (x y : Next CodeCore) (e : End) (s : State CodeCore) → AlikeNext declared c x y → x ≡ Ends e s → EndsAfter y e s
  ends_after (Goes a) y e s h is = absurd (none is)
    where
      none : Goes a ≡ Ends e s → ⊥
      none q = cc
  ends_after (Ends f a) (Goes b) e s h is = absurd h
  ends_after (Ends f a) (Ends g b) e s h is =
      let ends : f ≡ e = cc in
      let states : a ≡ s = cc in
      record { state = b; is = ap (λ (z : End). Ends z b) (h.0 ∙ ends); alike = subst (λ (z : State CodeCore). AlikeState (Takeable declared) z b) states h.1 }

  record GoesBefore (x : Next CodeCore) (t : State CodeCore) : Type 0 where
    state : State CodeCore
    is : x ≡ Goes state
    alike : AlikeState (Dead declared c) state t

  goes_before : (x y : Next CodeCore) (t : State CodeCore) → AlikeNext declared c x y → y ≡ Goes t → GoesBefore x t
  goes_before x (Ends g b) t h is = absurd (none is)
    where
      none : Ends g b ≡ Goes t → ⊥
      none q = cc
  goes_before (Ends f a) (Goes b) t h is = absurd h
  goes_before (Goes a) (Goes b) t h is = let states : b ≡ t = cc in record { state = a; is = refl; alike = subst (AlikeState (Dead declared c) a) states h }

  -- what is next in the marked code and isn't a take is next in the code
  abbrev Same : Instr → Type 0
  Same j = (i : Instr) → as_take i ≡ j → i ≡ j

  next_before : (s t : State CodeCore) (line : ℕ) (j : Instr) → Same j → AlikeState (Dead declared c) s t → IsNext m t.core line j → IsNext c s.core line j
  next_before s t line j only alike next =
      let bodies : t.core.now.body ≡ s.core.now.body = ap (λ (z : CodeActivation). z.body) alike.core.now.same in
      let places : t.core.now.at ≡ s.core.now.at = ap (λ (z : CodeActivation). z.at) alike.core.now.same in
      let here : fetch m s.core.now.body s.core.now.at ≡ Some (line, j) = subst (λ (a : ℕ). fetch m s.core.now.body a ≡ Some (line, j)) places (subst (λ (n : ℕ). fetch m n t.core.now.at ≡ Some (line, j)) bodies next) in
      go s.core.now.body s.core.now.at (slice_get c.bodies s.core.now.body) (slice_get m.bodies s.core.now.body) (marking.bodies s.core.now.body) here
    where
      step : (n : ℕ) (b : Body) (at : ℕ) (o p : Option Step) → MarksStep declared n b at o p → p ≡ Some (line, j) → o ≡ Some (line, j)
      step n b at None None h is = cc
      step n b at None (Some u) h is = absurd h
      step n b at (Some s2) None h is = absurd h
      step n b at (Some s2) (Some u) h is =
          let lines : u.0 ≡ line = ap (λ (o : Option Step). elim o as (λ o. ℕ) [ None ↦ 0 | Some t2 ↦ t2.0 ]) is in
          let instrs : u.1 ≡ j = ap (λ (o : Option Step). elim o as (λ o. Instr) [ None ↦ j | Some t2 ↦ t2.1 ]) is in
          let first : s2.0 ≡ line = sym h.0 ∙ lines in
          let second : s2.1 ≡ j = instr s2.1 u.1 h.1 instrs in
          λ i. Some (first i, second i)
        where
          instr : (i k : Instr) → Marks declared n b at i k → k ≡ j → i ≡ j
          instr i k (inl g) same = only i (sym g.1 ∙ same)
          instr i k (inr g) same = sym g.1 ∙ same

      go : (n at : ℕ) (o p : Option Body) → MarksBodies declared n o p → slice_get (body_steps p) at ≡ Some (line, j) → slice_get (body_steps o) at ≡ Some (line, j)
      go n at None None h is = is
      go n at None (Some d) h is = absurd h
      go n at (Some b) None h is = absurd h
      go n at (Some b) (Some d) h is = step n b at (slice_get b.steps at) (slice_get d.steps at) (h.steps at) is

-- ---- the laws

pub sound_of_programs : CodeOfProgramsIsSound → MarkedIsSound → MarkedOfProgramsIsSound
sound_of_programs sound marked p formed declared m marking = marked declared (code_of p) m marking (sound p formed declared)

pub ends_alike : CodeEndsAlike → MarkedRunsAlike → MarkedEndsAlike
ends_alike laws runs p formed declared m marking input turns based out events end = (there, back)
  where
    there : Ended p input turns based out events end → RunEnds m p input turns based out events end
    there h =
        let k = (laws p formed input turns based out events end).0 h in
        let e = ends_after declared (code_of p) m marking _ _ end k.last (runs declared (code_of p) m marking (test_of p.modes based) input turns k.steps) k.ends in
        record { steps = k.steps; last = e.state; ends = e.is; written = e.alike.out ∙ k.written; told = e.alike.events ∙ k.told }

    back : RunEnds m p input turns based out events end → Ended p input turns based out events end
    back h =
        let e = ends_before declared (code_of p) m marking _ _ end h.last (runs declared (code_of p) m marking (test_of p.modes based) input turns h.steps) h.ends in
        (laws p formed input turns based out events end).1 (record { steps = h.steps; last = e.state; ends = e.is; written = sym e.alike.out ∙ h.written; told = sym e.alike.events ∙ h.told })

pub means_alike : CodeMeansAlike → MarkedMeansAlike → MarkedMeansWhatTheProgramMeans
means_alike laws marked p formed declared m marking input turns based out end =
    let one = laws p formed input turns based out end in
    let two = marked declared (code_of p) m marking p.modes input turns based out end in
    (λ h. two.0 (one.0 h), λ h. one.1 (two.1 h))

pub last_alike : CodeEndsInTheSameState → MarkedRunsAlike → MarkedEndsInTheSameState
last_alike laws runs p formed declared m marking input turns based out code_out end code_end meant done =
    let e = ends_before declared (code_of p) m marking _ _ code_end done.last (runs declared (code_of p) m marking (test_of p.modes based) input turns done.steps) done.ends in
    let before : CodeMeans (code_of p) p.modes input turns based code_out code_end = record { steps = done.steps; last = e.state; ends = e.is; written = sym e.alike.out ∙ done.written } in
    state_same declared (code_of p) (Takeable declared) (λ n at x may. may) e.state done.last meant.last (laws p formed input turns based out code_out end code_end meant before) e.alike

module _ (runs : MarkedRunsAlike) (p : Program) (declared : List Variable) (m : Code) (marking : Marked declared (code_of p) m) (input : List ℕ) (turns : ℕ) (based : Bool) (t : State CodeCore) (reached : MarkedReaches m p input turns based t) where
  before : GoesBefore declared (code_of p) m marking (run (machine (code_of p)) (test_of p.modes based) reached.0 (code_first (code_of p) input turns)) t
  before = goes_before declared (code_of p) m marking _ _ t (runs declared (code_of p) m marking (test_of p.modes based) input turns reached.0) reached.1

  reaches : CodeReaches p input turns based before.state
  reaches = (reached.0, before.is)

  abbrev there : code.ReachedAlike p input turns based before.state → ReachedAlike declared p input turns based t
  there r = record { state = r.state; reached = r.reached; same = state_same declared (code_of p) (Dead declared (code_of p)) (λ n at x dead. dead.0) before.state t r.state r.same before.alike }

pub reached_alike : CodeReachesTheSameStates → MarkedRunsAlike → MarkedReachesTheSameStates
reached_alike laws runs p formed declared m marking input turns based t reached =
    there runs p declared m marking input turns based t reached (laws p formed input turns based _ (reaches runs p declared m marking input turns based t reached))

no_read : (i : Instr) → as_take i ≡ ReadOne → i ≡ ReadOne
no_read (Load x) h = cc
no_read i h = h

no_print : (number : ℕ) (i : Instr) → as_take i ≡ PrintTop number → i ≡ PrintTop number
no_print number (Load x) h = cc
no_print number i h = h

pub reads_alike : CodeReadsWhereMeant → MarkedRunsAlike → MarkedReadsWhereMeant
reads_alike laws runs p formed declared m marking input turns based t line reached next =
    let b = before runs p declared m marking input turns based t reached in
    let r = laws p formed input turns based b.state line (reaches runs p declared m marking input turns based t reached) (next_before declared (code_of p) m marking b.state t line ReadOne no_read b.alike next) in
    record { there = there runs p declared m marking input turns based t reached r.there; in_hand = r.in_hand; line_same = r.line_same }

pub prints_alike : CodePrintsWhereMeant → MarkedRunsAlike → MarkedPrintsWhereMeant
prints_alike laws runs p formed declared m marking input turns based t line number reached next =
    let b = before runs p declared m marking input turns based t reached in
    let r = laws p formed input turns based b.state line number (reaches runs p declared m marking input turns based t reached) (next_before declared (code_of p) m marking b.state t line (PrintTop number) (no_print number) b.alike next) in
    let same : t.core.now.operands ≡ b.state.core.now.operands = ap (λ (z : CodeActivation). z.operands) b.alike.core.now.same in
    record { there = there runs p declared m marking input turns based t reached r.there; values = r.values; others = r.others; operands = ap (popped number []) same ∙ r.operands; in_hand = r.in_hand }
