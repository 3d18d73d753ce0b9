-- A run of code with so many turns has the screen of the meaning.
use Rattle.std.proofs.Common.{◌≡◌, ◌∙◌, refl, sym, ap, subst, ℕ, Bool, true, false, List, [], ◌++◌, if◌then◌else◌}
use Rattle.setl_model_runs.specs.Events.{Event, End}
use Rattle.setl_model_runs.specs.Run.{State, Ends, run, Test}
use Rattle.setl_program.specs.Program.{Program}
use Rattle.setl_program.specs.Formed.{Formed}
use Rattle.setl_model.specs.Means.{Means}
use Rattle.setl_model.specs.Core.{Core}
use Rattle.setl_model.specs.Step.{test_of}
use Rattle.setl_code.specs.Code.{Code}
use Rattle.setl_code.specs.CodeCore.{CodeCore}
use Rattle.setl_code.specs.CodeMeans.{CodeMeans, code_first}
use Rattle.setl_code.specs.CodeOf.{code_of}
use Rattle.setl_code.specs.Machine.{machine}
use Rattle.setl_code_simulation.specs.Claims.{Ended, CodeEnded, CodeEndsAlike, CodeEndsInTheSameState}
use Rattle.setl_code_simulation.specs.States.{SameCore, SameState}
use Rattle.setl_machine_control.specs.Declaring.{Modes, tested}
use Rattle.setl_debug_screen.specs.Laws.{BodyIsInHand}
use Rattle.setl_debug_screen.specs.Shown.{IsShown}
use Rattle.setl_debug_target.specs.Screens.{Screen}
use Rattle.setl_debug_machine.specs.Screens.{PlainRun, IsScreen, profile_lines, hits_in}
use Rattle.setl_debug_machine.proofs.Cutting.{CutThere}

-- the declarations that count make the test of the meaning
counts : (based : Bool) (modes : Modes) → tested (if based then modes else []) ≡ test_of modes based
counts true modes = refl
counts false modes = refl

-- the run of this program
abbrev pub run_with : Program → List ℕ → Bool → PlainRun
run_with p input based = record { program = p; input = input; based = based }

abbrev pub screen_with : (shown out : List ℕ) → List Event → Screen
screen_with shown out events = record { shown = shown; written = out; profile = profile_lines events; hits = hits_in events }

-- the end of the run of a program's code, and that of the program itself
pub record EndsBoth (p : Program) (input : List ℕ) (turns : ℕ) (based : Bool) (out : List ℕ) (events : List Event) (end : End) (last : State CodeCore) : Type 0 where
  pub means : Means p input turns based out end
  pub told : means.last.events ≡ events
  pub same : SameCore (code_of p) last.core means.last.core

pub ends_both : CodeEndsAlike → CodeEndsInTheSameState → (p : Program) → Formed p → (c : Code) (modes : Modes) (input : List ℕ) (turns : ℕ) (based : Bool) → c ≡ code_of p → modes ≡ (if based then p.modes else []) →
    (steps : ℕ) (end : End) (last : State CodeCore) → run (machine c) (tested modes) steps (code_first c input turns) ≡ Ends end last → EndsBoth p input turns based last.out last.events end last
ends_both alike there p formed c modes input turns based code counted steps end last ends =
    let of_code : run (machine (code_of p)) (tested modes) steps (code_first (code_of p) input turns) ≡ Ends end last = subst (λ x. run (machine x) (tested modes) steps (code_first x input turns) ≡ Ends end last) code ends in
    let as_meant : run (machine (code_of p)) (test_of p.modes based) steps (code_first (code_of p) input turns) ≡ Ends end last = subst (λ (t : Test). run (machine (code_of p)) t steps (code_first (code_of p) input turns) ≡ Ends end last) (ap tested counted ∙ counts based p.modes) of_code in
    let ended : CodeEnded p input turns based last.out last.events end = record { steps = steps; last = last; ends = as_meant; written = refl; told = refl } in
    let done : CodeMeans (code_of p) p.modes input turns based last.out end = record { steps = steps; last = last; ends = as_meant; written = refl } in
    let m : Ended p input turns based last.out last.events end = (alike p formed input turns based last.out last.events end).1 ended in
    let meant : Means p input turns based last.out end = record { steps = m.steps; last = m.last; ends = m.ends; written = m.written } in
    record { means = meant; told = m.told; same = (there p formed input turns based last.out last.out end end meant done).core }

-- it is a screen, where this is shown
pub is_screen : (p : Program) (input : List ℕ) (turns : ℕ) (based : Bool) (out : List ℕ) (events : List Event) (end : End) (last : State CodeCore) (shown : List ℕ) → (b : EndsBoth p input turns based out events end last) → IsShown p turns end b.means.last.core shown → IsScreen (run_with p input based) turns (screen_with shown out events)
is_screen p input turns based out events end last shown b h = record { end = end; means = b.means; shown = h; profile = ap profile_lines (sym b.told); hits = ap hits_in (sym b.told) }

-- something is shown
pub some_screen : BodyIsInHand → (p : Program) (input : List ℕ) (turns : ℕ) (based : Bool) (out : List ℕ) (events : List Event) (end : End) (last : State CodeCore) → EndsBoth p input turns based out events end last → (shown : List ℕ) × IsScreen (run_with p input based) turns (screen_with shown out events)
some_screen body p input turns based out events end last b =
    let shown : (text : List ℕ) × IsShown p turns end b.means.last.core text = (_, record { body = last.core.now.body; number = body p last.core b.means.last.core b.same; lines = refl }) in
    (shown.0, is_screen p input turns based out events end last shown.0 b shown.1)

-- the screen of a run that was cut
pub cut_screen : CodeEndsAlike → CodeEndsInTheSameState → BodyIsInHand → (p : Program) → Formed p → (c : Code) (modes : Modes) (input : List ℕ) (turns : ℕ) (based : Bool) → c ≡ code_of p → modes ≡ (if based then p.modes else []) →
    (out : List ℕ) (events : List Event) → CutThere c modes input turns out events → (shown : List ℕ) × IsScreen (run_with p input based) turns (screen_with shown out events)
cut_screen alike there body p formed c modes input turns based code counted out events t =
    let both : EndsBoth p input turns based t.last.out t.last.events t.end t.last = ends_both alike there p formed c modes input turns based code counted t.steps t.end t.last t.ends in
    let with_out = subst (λ o. EndsBoth p input turns based o t.last.events t.end t.last) t.written both in
    let with_events = subst (λ es. EndsBoth p input turns based out es t.end t.last) t.told with_out in
    some_screen body p input turns based out events t.end t.last with_events
