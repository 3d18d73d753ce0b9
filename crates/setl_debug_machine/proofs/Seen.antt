-- A walk at the last state with so many turns tells what is seen of the meaning.
use Rattle.std.proofs.Common.{◌≡◌, ◌∙◌, ◌≤◌, ◌<◌, ◌+◌, ◌-◌, ◌^◌, ℕ, List, min, Result, Ok, Err, IfOk, sym, ap, subst, arith}
use Rattle.setl_model_runs.specs.Run.{State, Goes}
use Rattle.setl_program.specs.code.Plain.{plain_program}
use Rattle.setl_watch.specs.Watches.{counted_by, reported}
use Rattle.setl_code.specs.Code.{Code}
use Rattle.setl_code.specs.CodeCore.{CodeCore}
use Rattle.setl_code.specs.CodeMeans.{code_first}
use Rattle.setl_code.specs.CodeOf.{code_of}
use Rattle.setl_code.specs.Plain.{plain_code}
use Rattle.setl_code_simulation.specs.Claims.{CodeEndsAlike, CodeEndsInTheSameState}
use Rattle.setl_code_turns.specs.Laws.{FewerTurnsReach, FewerTurnsEndThere, FewerTurnsDontGoOn, TurnsNeverGrow}
use Rattle.setl_machine.specs.Outcome.{EndsChangeNothing}
use Rattle.setl_machine_control.specs.Declaring.{Modes, modes_of, tested, IsBare}
use Rattle.setl_debug_screen.specs.Laws.{BodyIsInHand}
use Rattle.setl_debug_machine.specs.code.Machines.{StepsTo, code_run}
use Rattle.setl_debug_machine.specs.code.Walks.{most_turns, run_by, IsReady, IsWalk, GoesBeyond, IsAtTurns, Sees}
use Rattle.setl_debug_machine.specs.declared.machine.Machine.{Machine}
use Rattle.setl_debug_machine.specs.declared.machine.Stepped.{Stepped}
use Rattle.setl_debug_machine.specs.declared.machine.Stepped.TheVariants.{Went, Ended}
use Rattle.setl_debug_machine.specs.declared.subject.Subject.{Subject}
use Rattle.setl_debug_machine.specs.declared.walk.Walk.{Walk}
use Rattle.setl_debug_machine.proofs.Counting.{stores_counted}
use Rattle.setl_debug_machine.proofs.Cutting.{CutThere, out_of_turns, at_end}
use Rattle.setl_debug_machine.proofs.Screening.{screen_with, cut_screen}
use Rattle.setl_debug_machine.proofs.Turns.{difference, enough_left, too_few_left}

pub record Laws : Type 0 where
  pub ends : CodeEndsAlike
  pub last : CodeEndsInTheSameState
  pub reach : FewerTurnsReach
  pub there : FewerTurnsEndThere
  pub stop : FewerTurnsDontGoOn
  pub left : TurnsNeverGrow
  pub nothing : EndsChangeNothing
  pub body : BodyIsInHand

-- ---- the run with so many turns

module _ (laws : Laws) (s : Subject) (ready : IsReady s) where
  abbrev code : Code
  code = plain_code s.declarations.code

  abbrev modes : Modes
  modes = modes_of s.declarations

  abbrev input : List ℕ
  input = s.input.items

  bare : IsBare code
  bare = subst (λ c. IsBare (plain_code c)) (sym ready.table) ready.bare

  of_program : code ≡ code_of (plain_program s.program.now)
  of_program = ap plain_code ready.table ∙ ready.code

  cut_by : (turns n : ℕ) (at : State CodeCore) (m : Machine) (ahead : Stepped) → code_run s.declarations input (turns + (most_turns - turns)) n ≡ Goes at → most_turns - turns ≤ at.core.world.left → StepsTo s.declarations at m ahead → GoesBeyond turns m.control.turns ahead → CutThere code modes input turns at.out at.events
  cut_by turns n at m (Went events) reached enough step beyond =
      let few = too_few_left most_turns turns step.0.core.world.left m.control.turns (ap (λ (k : CodeCore). k.world.left) step.2.core) beyond in
      out_of_turns laws.there code modes input turns (most_turns - turns) n at step.0 reached enough step.1 few
  cut_by turns n at m (Ended e) reached enough step beyond = at_end laws.reach laws.stop laws.nothing code modes input turns (most_turns - turns) n at step.0 _ ready.main bare reached enough step.1

  -- it ends after what a walk has counted
  walk_cut : (turns : ℕ) (w : Walk) → turns ≤ most_turns → (is : IsWalk s.declarations input w) → IsAtTurns turns w → CutThere code modes input turns is.at.out is.at.events
  walk_cut turns w within is here =
      let left : is.at.core.world.left ≤ most_turns = laws.left code (tested modes) w.steps (code_first code input most_turns) is.at is.reached in
      let reached : code_run s.declarations input (turns + (most_turns - turns)) w.steps ≡ Goes is.at = subst (λ k. code_run s.declarations input k w.steps ≡ Goes is.at) (difference most_turns turns within) is.reached in
      cut_by turns w.steps is.at w.machine w.ahead reached (enough_left most_turns turns is.at.core.world.left w.tally.turns within left is.counted.turns here.within) is.next here.last

  -- ---- what is seen

  seen : (turns : ℕ) (w : Walk) → turns < 2 ^ 63 → IsWalk s.declarations input w → IsAtTurns turns w → Sees (run_by s) turns w
  seen turns w few is here =
      let within : turns ≤ most_turns = omega arith in
      let screen = cut_screen laws.ends laws.last laws.body (plain_program s.program.now) ready.formed code modes input turns s.based of_program ready.counted is.at.out is.at.events (walk_cut turns w within is here) in
      record {
        screen = screen_with screen.0 is.at.out is.at.events;
        is = screen.1;
        written = is.counted.written;
        calls = ap reported is.counted.calls;
        stores = ap (λ x. min (counted_by x) (2 ^ 64 - 1)) is.counted.stores ∙ stores_counted w.tally.line is.at.events;
      }

  pub all_seen : {E : Type 0} (turns : ℕ) (r : Result Walk E) → turns < 2 ^ 63 → IfOk r (IsWalk s.declarations input) → IfOk r (IsAtTurns turns) → IfOk r (Sees (run_by s) turns)
  all_seen turns (Ok w) few is here = seen turns w few is here
  all_seen turns (Err e) few is here = tt
