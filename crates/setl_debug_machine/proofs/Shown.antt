-- What is shown of the last state of a run is what is seen of the meaning.
use Rattle.std.proofs.Common.{◌≡◌, ◌∙◌, ℕ, List, [], ◌++◌, Option, Result, Ok, Err, OnOk, append_assoc, refl, sym, ap, subst}
use Rattle.setl_model_runs.specs.Events as run
use Rattle.setl_model_runs.specs.Variable.{Variable}
use Rattle.setl_program.specs.Program.{Program}
use Rattle.setl_program.specs.code.Plain.{plain_program}
use Rattle.setl_model.specs.Core.{Core}
use Rattle.setl_code.specs.CodeCore.{CodeCore, held}
use Rattle.setl_code.specs.CodeOf.{code_of}
use Rattle.setl_code.specs.Plain.{plain_code}
use Rattle.setl_code_simulation.specs.Claims.{CodeEndsAlike, CodeEndsInTheSameState}
use Rattle.setl_code_simulation.specs.States.{IsBody}
use Rattle.setl_store.specs.Operands.{IsThere}
use Rattle.setl_store.specs.Standing.{variables, variables_in}
use Rattle.setl_machine_control.specs.Declaring.{Modes, modes_of}
use Rattle.setl_machine_control.specs.declared.end.End.{End}
use Rattle.setl_machine_control.specs.declared.end.End.TheVariants as end
use Rattle.setl_debug_screen.specs.Laws.{NothingIsTaken, BodyIsInHand, SlotsShowTheState}
use Rattle.setl_debug_screen.specs.Lines.{place_name, place_text, place_line, state_line}
use Rattle.setl_debug_screen.specs.Shown.{IsShown, procedure_in_hand}
use Rattle.setl_debug_screen.specs.code.Standing.{held_lines, state_by}
use Rattle.setl_debug_machine.specs.code.Machines.{EndsIn, end_by}
use Rattle.setl_debug_machine.specs.code.Walks.{AddsPart, IsReady, run_by}
use Rattle.setl_debug_machine.specs.declared.follower.Ending.{Ending}
use Rattle.setl_debug_machine.specs.declared.subject.Subject.{Subject}
use Rattle.setl_debug_machine.proofs.Screening.{EndsBoth, ends_both, screen_with, is_screen}
use Rattle.setl_debug_machine.proofs.Slots.{same_held, same_shown}

pub record Laws : Type 0 where
  pub ends : CodeEndsAlike
  pub last : CodeEndsInTheSameState
  pub there : NothingIsTaken
  pub body : BodyIsInHand
  pub shown : SlotsShowTheState

-- how a run stands
state_same : (modes : Modes) (e : End) → state_by modes e ≡ state_line (end_by modes e)
state_same modes end.Done = refl
state_same modes (end.Stopped why line) = refl
state_same modes end.Spent = refl
state_same modes end.Paused = refl
state_same modes end.ReadFault = refl
state_same modes end.WriteFault = refl
state_same modes end.NoMemory = refl
state_same modes end.Stuck = refl

-- the lines of all variables of a core
abbrev pub all_lines : CodeCore → List ℕ
all_lines k = held_lines (variables k).global k ++ held_lines (variables k).own k

module _ (laws : Laws) (s : Subject) (ready : IsReady s) (turns : ℕ) (ending : Ending) (k : CodeCore) (is : EndsIn s.declarations s.input.items turns ending k) where
  abbrev program : Program
  program = plain_program s.program.now

  abbrev modes : Modes
  modes = modes_of s.declarations

  abbrev ended : run.End
  ended = end_by modes ending.end

  of_program : plain_code s.declarations.code ≡ code_of program
  of_program = ap plain_code ready.table ∙ ready.code

  meant : EndsBoth program s.input.items turns s.based is.last.out is.last.events ended is.last
  meant = ends_both laws.ends laws.last program ready.formed (plain_code s.declarations.code) modes s.input.items turns s.based of_program ready.counted is.steps ended is.last is.ends

  abbrev core : Core
  core = meant.means.last.core

  abbrev procedure : Option (List ℕ)
  procedure = procedure_in_hand core.work

  pub nothing_taken : (x : Variable) → IsThere (held x k)
  nothing_taken x = subst IsThere (sym (same_held is.last.core k is.same x)) (laws.there program is.last.core core meant.same x)

  -- the body's number is that of the procedure in hand
  number : IsBody (plain_code s.code.now) ending.body procedure
  number =
      let there : IsBody (code_of program) ending.body procedure = subst (λ n. IsBody (code_of program) n procedure) (sym is.body) (laws.body program is.last.core core meant.same) in
      subst (λ c. IsBody c ending.body procedure) (sym ready.code) there

  names : variables is.last.core ≡ variables_in (code_of program) is.last.core.now.body
  names = is.names ∙ ap (λ c. variables_in c ending.body) of_program ∙ ap (variables_in (code_of program)) is.body

  lines : IsShown program turns ended core (place_line turns procedure ended ++ all_lines is.last.core)
  lines = laws.shown program is.last.core core turns ended names meant.same

  adds : (name before between after : List ℕ) (declared : Modes) → declared ≡ modes → ((p : Option (List ℕ)) → IsBody (plain_code s.code.now) ending.body p → name ≡ place_name p) →
      between ≡ before ++ place_text turns name (state_by declared ending.end) → after ≡ between ++ all_lines k → AddsPart (run_by s) turns (λ x. x.shown) before after
  adds name before between after declared counted named place slots =
      let text = place_line turns procedure ended ++ all_lines is.last.core in
      let held = all_lines k in (
        screen_with text is.last.out is.last.events,
        is_screen program s.input.items turns s.based is.last.out is.last.events ended is.last text meant lines,
        slots
            ∙ ap (λ x. x ++ held) place
            ∙ append_assoc before (place_text turns name (state_by declared ending.end)) held
            ∙ ap (λ n. before ++ (place_text turns n (state_by declared ending.end) ++ held)) (named procedure number)
            ∙ ap (λ ms. before ++ (place_text turns (place_name procedure) (state_by ms ending.end) ++ held)) counted
            ∙ ap (λ x. before ++ (place_text turns (place_name procedure) x ++ held)) (state_same modes ending.end)
            ∙ ap (λ x. before ++ (place_line turns procedure ended ++ x)) (same_shown is.last.core k is.same),
      )

  -- where the variables could be added
  pub adds_all : {A E : Type 0} (r : Result A E) (name before between after : List ℕ) (declared : Modes) → declared ≡ modes → ((p : Option (List ℕ)) → IsBody (plain_code s.code.now) ending.body p → name ≡ place_name p) →
      between ≡ before ++ place_text turns name (state_by declared ending.end) → OnOk r (after ≡ between ++ all_lines k) → OnOk r (AddsPart (run_by s) turns (λ x. x.shown) before after)
  adds_all (Ok x) name before between after declared counted named place slots = adds name before between after declared counted named place slots
  adds_all (Err e) name before between after declared counted named place slots = tt
