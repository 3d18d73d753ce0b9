-- The code of a formed program means what the program means.
use Rattle.std.proofs.Common.{◌≡◌, ℕ, zero, suc, Bool, false, List, [], ◌∷◌, map, refl, sym, ◌∙◌}
use Rattle.std.specs.Prelude.{slice_get}
use Rattle.std.specs.Option.{option_map}
use Rattle.setl_model_runs.specs.Events.{Event, End}
use Rattle.setl_model_runs.specs.Run.{State, Ends, run}
use Rattle.setl_program.specs.Program.{Procedure, Program}
use Rattle.setl_program.specs.Formed.{Formed}
use Rattle.setl_model.specs.Core.{Core}
use Rattle.setl_model.specs.Step.{language, test_of}
use Rattle.setl_model.specs.Means.{Means, first}
use Rattle.setl_code.specs.Piece.{no_loop}
use Rattle.setl_code.specs.Generated.{main_code}
use Rattle.setl_code.specs.CodeOf.{code_of, main_body, procedure_body}
use Rattle.setl_code.specs.CodeCore.{CodeCore, variables_of}
use Rattle.setl_code.specs.Machine.{machine}
use Rattle.setl_code.specs.CodeMeans.{CodeMeans, code_first}
use Rattle.setl_code_simulation.specs.Follow.{Shares}
use Rattle.setl_code_simulation.specs.Matches.{Loop, executing, last, no_copy, Matches, rank, Keeps, InHandOf}
use Rattle.setl_code_simulation.specs.States.{SameCore, SameState, CodeReaches}
use Rattle.setl_code_simulation.specs.Claims.{Ended, CodeEnded, CodeEndsAlike, CodeMeansAlike}
use Rattle.setl_code_simulation.proofs.Stands.{stands_alone}
use Rattle.setl_code_simulation.proofs.Calling.{Coded, all_om}
use Rattle.setl_code_simulation.proofs.Activations.{shows_same}
use Rattle.setl_code_simulation.proofs.Following.{follows}
use Rattle.setl_code_simulation.proofs.Follow.{ends_too, ends_there, Meets, meets_there}

procedures_there : (ps : List Procedure) (f : ℕ) → slice_get (map procedure_body ps) f ≡ option_map procedure_body (slice_get ps f)
procedures_there [] zero = refl
procedures_there [] (suc f) = refl
procedures_there (p ∷ ps) zero = refl
procedures_there (p ∷ ps) (suc f) = procedures_there ps f

coded : (p : Program) → Coded (code_of p) p
coded p = record { main = refl; procedures = λ f. procedures_there p.procedures f }

module _ (p : Program) (formed : Formed p) (input : List ℕ) (turns : ℕ) where
  -- the first states match
  begins : Shares (Matches (code_of p) p.procedures) (code_first (code_of p) input turns) (first p input turns)
  begins =
      let loop : Loop = record { is_loop = false; labels = no_loop; leaves = zero } in
      let here = stands_alone (main_code p.end_line p.main 0) no_loop in
      record {
        core = record {
          world = refl;
          globals = all_om (code_of p).vars;
          own = all_om (variables_of 0 (main_body p));
          kept = no_copy;
          place = executing loop formed.0 here.0 (last refl refl refl here.1);
        };
        out = refl;
        events = refl;
      }

  -- where the program ends, its code ends alike
  pub code_end : (based : Bool) (end : End) (l : State Core) (steps : ℕ) → run (language p) (test_of p.modes based) steps (first p input turns) ≡ Ends end l → (j : ℕ) × (s : State CodeCore) × (run (machine (code_of p)) (test_of p.modes based) j (code_first (code_of p) input turns) ≡ Ends end s) × SameState (code_of p) s l
  code_end based end l steps h =
      let c = code_of p in
      ends_too CodeCore Core (machine c) (language p) (Matches c p.procedures) (rank c p.procedures) Keeps (InHandOf c) (SameCore c) (follows c p (coded p) formed) (shows_same c p.procedures) (test_of p.modes based) end l (code_first c input turns) (first p input turns) steps begins h

  -- where the code ends, the program ends alike
  pub meant_end : (based : Bool) (end : End) (l : State CodeCore) (steps : ℕ) → run (machine (code_of p)) (test_of p.modes based) steps (code_first (code_of p) input turns) ≡ Ends end l → (j : ℕ) × (t : State Core) × (run (language p) (test_of p.modes based) j (first p input turns) ≡ Ends end t) × SameState (code_of p) l t
  meant_end based end l steps h =
      let c = code_of p in
      ends_there CodeCore Core (machine c) (language p) (Matches c p.procedures) (rank c p.procedures) Keeps (InHandOf c) (SameCore c) (follows c p (coded p) formed) (shows_same c p.procedures) (test_of p.modes based) steps end l (code_first c input turns) (first p input turns) begins h

  -- where the code comes to a state, the program comes to one that is the same, with that in hand which the code does next
  pub met : (based : Bool) (s : State CodeCore) → CodeReaches p input turns based s → Meets (machine (code_of p)) (language p) (Matches (code_of p) p.procedures) (InHandOf (code_of p)) (SameCore (code_of p)) (test_of p.modes based) s (first p input turns)
  met based s reached =
      let c = code_of p in
      meets_there CodeCore Core (machine c) (language p) (Matches c p.procedures) (rank c p.procedures) Keeps (InHandOf c) (SameCore c) (follows c p (coded p) formed) (shows_same c p.procedures) (test_of p.modes based) reached.0 s (code_first c input turns) (first p input turns) begins reached.1

  ends_as_code : (based : Bool) (out : List ℕ) (events : List Event) (end : End) → Ended p input turns based out events end → CodeEnded p input turns based out events end
  ends_as_code based out events end h =
      let r = code_end based end h.last h.steps h.ends in
      record { steps = r.0; last = r.1; ends = r.2; written = r.3.out ∙ h.written; told = r.3.events ∙ h.told }

  ends_as_meant : (based : Bool) (out : List ℕ) (events : List Event) (end : End) → CodeEnded p input turns based out events end → Ended p input turns based out events end
  ends_as_meant based out events end h =
      let r = meant_end based end h.last h.steps h.ends in
      record { steps = r.0; last = r.1; ends = r.2; written = sym r.3.out ∙ h.written; told = sym r.3.events ∙ h.told }

pub code_ends_alike : CodeEndsAlike
code_ends_alike p formed input turns based out events end = (ends_as_code p formed input turns based out events end, ends_as_meant p formed input turns based out events end)

pub code_means_alike : CodeMeansAlike
code_means_alike p formed input turns based out end = (there, back)
  where
    there : Means p input turns based out end → CodeMeans (code_of p) p.modes input turns based out end
    there h =
        let r = ends_as_code p formed input turns based out h.last.events end (record { steps = h.steps; last = h.last; ends = h.ends; written = h.written; told = refl }) in
        record { steps = r.steps; last = r.last; ends = r.ends; written = r.written }

    back : CodeMeans (code_of p) p.modes input turns based out end → Means p input turns based out end
    back h =
        let r = ends_as_meant p formed input turns based out h.last.events end (record { steps = h.steps; last = h.last; ends = h.ends; written = h.written; told = refl }) in
        record { steps = r.steps; last = r.last; ends = r.ends; written = r.written }
