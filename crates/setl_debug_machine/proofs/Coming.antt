-- The states that the machine comes to in a run, up to its end.
use Rattle.std.proofs.Common.{◌≡◌, ◌∙◌, sym, ap, subst, arith, ℕ, suc, List}
use Rattle.std.specs.Prelude.{◌<◌}
use Rattle.std.specs.Global.{Vec}
use Rattle.setl_model_runs.specs.Run.{State, Goes, Ends}
use Rattle.setl_watch.specs.declared.event.Event.{Event}
use Rattle.setl_code.specs.declared.code.Code.{Code}
use Rattle.setl_code.specs.CodeCore.{CodeCore}
use Rattle.setl_code.specs.CodeMeans.{code_first}
use Rattle.setl_code.specs.Machine.{machine}
use Rattle.setl_code.specs.Plain.{plain_code}
use Rattle.setl_store.specs.Standing.{variables, variables_in}
use Rattle.setl_machine.specs.Outcome.{EndsChangeNothing}
use Rattle.setl_machine_control.specs.Declaring.{DeclarationTable, modes_of, tested, IsBare}
use Rattle.setl_machine_control.specs.declared.end.End.{End}
use Rattle.setl_debug_machine.specs.code.Machines.{code_run, end_by, StandsAt, StandsAfter, StepsTo, EndsIn}
use Rattle.setl_debug_machine.specs.declared.machine.Machine.{Machine}
use Rattle.setl_debug_machine.specs.declared.machine.Stepped.TheVariants.{Went, Ended}
use Rattle.setl_debug_machine.proofs.Reaching.{not_ended, step_more}
use Rattle.setl_debug_machine.proofs.Slots.{same_variables}

-- behind a step that goes on
pub stands_on : (d : DeclarationTable) (input : List ℕ) (turns steps : ℕ) (old new : Machine) (events : Vec Event) → StandsAfter d input turns steps old → ((s : State CodeCore) → StandsAt d s old → StepsTo d s new (Went events)) → StandsAfter d input turns (suc steps) new
stands_on d input turns steps old new events on does =
    let x = does on.at on.stands in
    record { at = x.0; reached = step_more (machine (plain_code d.code)) (tested (modes_of d)) steps (code_first (plain_code d.code) input turns) on.at (Goes x.0) on.reached x.1; stands = x.2 }

-- it doesn't end before a state that it comes to
pub goes_farther : (d : DeclarationTable) (input : List ℕ) (turns steps later : ℕ) (old new : Machine) (e : End) → StandsAfter d input turns steps old → ((s : State CodeCore) → StandsAt d s old → StepsTo d s new (Ended e)) → steps < later → (at : State CodeCore) × (code_run d input turns later ≡ Goes at) → ⊥
goes_farther d input turns steps later old new e on does less far =
    let x = does on.at on.stands in
    let first = code_first (plain_code d.code) input turns in
    let ended = step_more (machine (plain_code d.code)) (tested (modes_of d)) steps first on.at (Ends (end_by (modes_of d) e) x.0) on.reached x.1 in
    not_ended (machine (plain_code d.code)) (tested (modes_of d)) (suc steps) later first x.0 far.0 (end_by (modes_of d) e) ended (omega (arith, less)) far.1

-- at a step that ends it
pub ends_in : EndsChangeNothing → (d : DeclarationTable) (input : List ℕ) (turns steps : ℕ) (old new : Machine) (body : ℕ) (e : End) → StandsAfter d input turns steps old → body ≡ old.store.core.now.body → variables old.store.core ≡ variables_in (plain_code old.store.code) body →
    ((s : State CodeCore) → StandsAt d s old → StepsTo d s new (Ended e)) → EndsIn d input turns (record { body = body; end = e }) new.store.core
ends_in nothing d input turns steps old new body e on number names does =
    let x = does on.at on.stands in
    let bare : IsBare (plain_code d.code) = subst (λ (c : Code). IsBare (plain_code c)) (sym on.stands.serves.same) on.stands.serves.bare in
    let still = nothing (plain_code d.code) (modes_of d) on.at x.0 (end_by (modes_of d) e) on.stands.serves.main bare x.1 in
    record {
      steps = suc steps;
      last = x.0;
      ends = step_more (machine (plain_code d.code)) (tested (modes_of d)) steps (code_first (plain_code d.code) input turns) on.at (Ends (end_by (modes_of d) e) x.0) on.reached x.1;
      same = x.2;
      body = number ∙ sym (ap (λ (k : CodeCore). k.now.body) on.stands.core) ∙ sym still.2.body;
      names =
          same_variables on.at.core x.0.core still.2
          ∙ ap variables on.stands.core
          ∙ names
          ∙ ap (λ (c : Code). variables_in (plain_code c) body) (sym on.stands.serves.same);
    }
