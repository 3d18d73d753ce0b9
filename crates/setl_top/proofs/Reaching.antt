-- The states of the run of the marked code of a program are states of the program.
use Rattle.std.proofs.Common.{◌≡◌, ◌∙◌, ℕ, zero, suc, Bool, true, false, List, [], ◌∷◌, ◌++◌, Option, Some, refl, sym, ap, subst}
use Rattle.std.proofs.lemmas.List.{append-nil}
use Rattle.setl_value.specs.Datum.{Datum}
use Rattle.setl_text.specs.Texts.{print_line}
use Rattle.setl_model_runs.specs.Events.{End, Stopped, Unfit, Stuck}
use Rattle.setl_model_runs.specs.Run.{Store, Move, Moves, Halts, State, Next, Goes, Ends, Machine, Test, if_fits, store_all, stored, settle, step, and_then, run}
use Rattle.setl_program.specs.Program.{Program}
use Rattle.setl_program.specs.Formed.{Formed}
use Rattle.setl_model.specs.Dump.{layout}
use Rattle.setl_model.specs.Ending.{NoneIsStuck}
use Rattle.setl_model.specs.Means.{Means, HasPrint}
use Rattle.setl_code.specs.Code.{Code, PrintTop}
use Rattle.setl_code.specs.CodeCore.{Operand, Pops, popped, CodeCore}
use Rattle.setl_code.specs.CodeMeans.{CodeMeans}
use Rattle.setl_code.specs.Machine.{machine, fetch, do_step, on_popped, print_values}
use Rattle.setl_code_layout.specs.Claims.{MarkedCodeEndsWithLayout}
use Rattle.setl_code_simulation.specs.Claims.{Ended}
use Rattle.setl_machine_control.specs.Answers.{said, start}
use Rattle.setl_machine.specs.Outcome.{AtPrint, AtRead}
use Rattle.setl_code_marked.specs.Marked.{declared_in}
use Rattle.setl_code_marked_simulation.specs.Claims.{MarkedEndsAlike, MarkedMeansWhatTheProgramMeans, MarkedEndsInTheSameState, MarkedReaches, MarkedReachesTheSameStates, MarkedReadsWhereMeant, MarkedPrintsWhereMeant}
use Rattle.setl_top.specs.Moments.{AtState}
use Rattle.setl_top.specs.Moments as moments
use Rattle.setl_top.specs.Listings.{IsMarked}
use Rattle.setl_top.specs.Runnable.{OfProgram}
use Rattle.setl_top.proofs.Stands.{coded, as_meant, Taken, Came, PrintsThere, EndsThere, Stands}
use Rattle.setl_top_words.specs.Words.{Options}

-- ---- the end of a run

module _ (m : Machine CodeCore) (test : Test) where
  -- whether values fit doesn't hang on what was written and told
  fits_so : (line : ℕ) (x : Store) (b : Bool) (p q : Next CodeCore) (s t d : State CodeCore) (e : End) → (p ≡ Ends e d → (f : State CodeCore) × (q ≡ Ends e f) × (d.out ≡ s.out) × (f.out ≡ t.out)) → if_fits b p (Stopped (Unfit x.0) line) s ≡ Ends e d → (f : State CodeCore) × (if_fits b q (Stopped (Unfit x.0) line) t ≡ Ends e f) × (d.out ≡ s.out) × (f.out ≡ t.out)
  fits_so line x true p q s t d e later h = later h
  fits_so line x false p q s t d e later h =
      let ends : Stopped (Unfit x.0) line ≡ e = cc in
      let same : s ≡ d = cc in
      (t, ap (λ f. Ends f t) ends, ap (λ (z : State CodeCore). z.out) (sym same), refl)

  fits_alike : (line : ℕ) (xs : List Store) (s t d : State CodeCore) (e : End) → store_all m test line xs s ≡ Ends e d → (f : State CodeCore) × (store_all m test line xs t ≡ Ends e f) × (d.out ≡ s.out) × (f.out ≡ t.out)
  fits_alike line [] s t d e h = absurd (cc)
  fits_alike line (x ∷ xs) s t d e h =
      fits_so line x (test x.0 x.1) (store_all m test line xs (stored m line x s)) (store_all m test line xs (stored m line x t)) s t d e (fits_alike line xs (stored m line x s) (stored m line x t) d e) h

  module _ (silent : (k : CodeCore) (e : End) (d : State CodeCore) → step m test (start k) ≡ Ends e d → d.out ≡ []) where
    -- a step that ends the run leaves the output as it was
    leaves_output : (s d : State CodeCore) (e : End) → step m test s ≡ Ends e d → d.out ≡ s.out
    leaves_output s d e h = go (m.move s.core) h (silent s.core)
      where
        go : (how : Move CodeCore) → settle m test s how ≡ Ends e d → ((f : End) (z : State CodeCore) → settle m test (start s.core) how ≡ Ends f z → z.out ≡ []) → d.out ≡ s.out
        go (Moves words told to line xs) h mute =
            let there : State CodeCore = record { core = to; out = words; events = told } in
            let r = fits_alike line xs (record { core = to; out = s.out ++ words; events = s.events ++ told }) there d e h in
            let none : words ≡ [] = sym r.3 ∙ mute e r.0 r.1 in
            r.2 ∙ ap (λ ws. s.out ++ ws) none ∙ append-nil s.out
        go (Halts f) h mute = let same : s ≡ d = cc in ap (λ (z : State CodeCore). z.out) (sym same)

    -- a run ends with the output of a state that it reaches
    pub ends_at : (n : ℕ) (s t : State CodeCore) (e : End) → run m test n s ≡ Ends e t → (k : ℕ) × (d : State CodeCore) × (run m test k s ≡ Goes d) × (d.out ≡ t.out)
    ends_at zero s t e h = absurd (cc)
    ends_at (suc n) s t e h = go (step m test s) refl h (λ d. ends_at n d t e)
      where
        go : (y : Next CodeCore) → step m test s ≡ y → and_then y (run m test n) ≡ Ends e t → ((d : State CodeCore) → run m test n d ≡ Ends e t → (k : ℕ) × (f : State CodeCore) × (run m test k d ≡ Goes f) × (f.out ≡ t.out)) → (k : ℕ) × (d : State CodeCore) × (run m test k s ≡ Goes d) × (d.out ≡ t.out)
        go (Goes d) is h ih = let later = ih d h in (suc later.0, later.1, ap (λ z. and_then z (run m test later.0)) is ∙ later.2, later.3)
        go (Ends f d) is h ih =
            let state : d ≡ t = cc in
            (0, s, refl, sym (leaves_output s d f is) ∙ ap (λ (z : State CodeCore). z.out) state)

-- what a `print` of these operands writes
pub said_at_print : (c : Code) (test : Test) (k : CodeCore) (line n : ℕ) (vs : List (Option Datum)) (xs : List Operand) → fetch c k.now.body k.now.at ≡ Some (line, PrintTop n) → popped n [] k.now.operands ≡ Pops vs xs → said (step (machine c) test (start k)) ≡ print_line vs
said_at_print c test k line n vs xs next ops =
    ap (λ f. said (settle (machine c) test (start k) (do_step c f k))) next
    ∙ ap (λ f. said (settle (machine c) test (start k) (on_popped f (λ us ys. print_values us ys k)))) ops

-- ---- the laws

-- that marked code means what its program means
pub record CodeLaws : Type 0 where
  pub ends : MarkedEndsAlike
  pub means : MarkedMeansWhatTheProgramMeans
  pub last : MarkedEndsInTheSameState
  pub reached : MarkedReachesTheSameStates
  pub reads : MarkedReadsWhereMeant
  pub prints : MarkedPrintsWhereMeant
  pub not_stuck : NoneIsStuck
  pub laid : MarkedCodeEndsWithLayout

module _ (laws : CodeLaws) (names : List (List ℕ)) (p : Program) (formed : Formed p) (c : Code) (marked : IsMarked p c) (asked : Options) (input : List ℕ) where
  comes : (s : State CodeCore) → Came (OfProgram names p) c asked input s → MarkedReaches c p input asked.turns asked.based s
  comes s h = (h.0, as_meant (OfProgram names p) c asked input h.0 (Goes s) h.1)

  at_state : (s : State CodeCore) → Came (OfProgram names p) c asked input s → AtState p input asked.turns asked.based s.out
  at_state s came =
      let r = laws.reached p formed (declared_in p.modes) c marked input asked.turns asked.based s (comes s came) in
      record { state = r.state; reached = r.reached; printed = r.same.out }

  at_read : (s : State CodeCore) → Came (OfProgram names p) c asked input s → AtRead c s.core → moments.AtRead p input asked.turns asked.based s.out
  at_read s came next =
      let r = laws.reads p formed (declared_in p.modes) c marked input asked.turns asked.based s next.0 (comes s came) next.1 in
      record { state = r.there.state; reached = r.there.reached; printed = r.there.same.out; in_hand = r.in_hand }

  -- the world is the same there
  at_print : (s : State CodeCore) → Came (OfProgram names p) c asked input s → AtPrint c s.core → (line : List ℕ) → line ≡ said (step (machine c) (Taken (OfProgram names p) c asked input) (start s.core)) → PrintsThere (OfProgram names p) c asked input s line
  at_print s came next line says =
      let r = laws.prints p formed (declared_in p.modes) c marked input asked.turns asked.based s next.0 next.1 (comes s came) next.2 in
      let text = said_at_print c (Taken (OfProgram names p) c asked input) s.core next.0 next.1 r.values r.others next.2 r.operands in
      record {
        still = r.there.state.core.shared.world.input;
        at = (
          record {
            state = r.there.state;
            reached = r.there.reached;
            printed = r.there.same.out;
            in_hand = subst (HasPrint p r.there.state) (sym (says ∙ text)) r.in_hand;
          },
          refl,
        );
        same = ap (λ w. w.input) r.there.same.core.world;
      }

  at_end : (n : ℕ) (e : End) (s : State CodeCore) → coded (OfProgram names p) c asked input n ≡ Ends e s → EndsThere (OfProgram names p) c asked input s e
  at_end n e s is =
      let ends = as_meant (OfProgram names p) c asked input n (Ends e s) is in
      let code : CodeMeans c p.modes input asked.turns asked.based s.out e = record { steps = n; last = s; ends = ends; written = refl } in
      let meant : Ended p input asked.turns asked.based s.out s.events e = (laws.ends p formed (declared_in p.modes) c marked input asked.turns asked.based s.out s.events e).1 (record { steps = n; last = s; ends = ends; written = refl; told = refl }) in
      let means : Means p input asked.turns asked.based s.out e = record { steps = meant.steps; last = meant.last; ends = meant.ends; written = meant.written } in
      let same = laws.last p formed (declared_in p.modes) c marked input asked.turns asked.based s.out s.out e e means code in
      let laid = laws.laid p formed c marked input asked.turns asked.based s.out e code in
      record {
        means = record { events = meant.last.events; left = meant.last.core.shared.world.input; dump = layout names p.modes meant.last; so = (means, refl, refl, refl) };
        events = meant.told;
        left = ap (λ w. w.input) (sym same.core.world);
        dump = (laid.same means).dump names;
      }

  -- no run is stuck
  never_stuck : (n : ℕ) (s : State CodeCore) → coded (OfProgram names p) c asked input n ≡ Ends Stuck s → ⊥
  never_stuck n s is =
      let code : CodeMeans c p.modes input asked.turns asked.based s.out Stuck = record { steps = n; last = s; ends = as_meant (OfProgram names p) c asked input n (Ends Stuck s) is; written = refl } in
      laws.not_stuck p formed input asked.turns asked.based s.out ((laws.means p formed (declared_in p.modes) c marked input asked.turns asked.based s.out Stuck).1 code)

  pub program_stands : Stands (OfProgram names p) c asked input
  program_stands = record { state = at_state; read = at_read; print = λ s came next line says some. at_print s came next line says; ends = at_end; never = never_stuck }
