-- How the run with so many turns ends at the state where a walk stands.
use Rattle.std.proofs.Common.{◌≡◌, ◌∙◌, refl, sym, ap, subst, arith, ℕ, suc, List}
use Rattle.std.specs.Prelude.{◌+◌, ◌-◌, ◌≤◌, ◌<◌, ◌^◌}
use Rattle.setl_model_runs.specs.Events as run
use Rattle.setl_model_runs.specs.Run.{State, Goes, Ends}
use Rattle.setl_code.specs.declared.code.Code as code
use Rattle.setl_code.specs.CodeCore.{CodeCore}
use Rattle.setl_code.specs.CodeMeans.{code_first}
use Rattle.setl_code.specs.Plain.{plain_code}
use Rattle.setl_code_turns.specs.Laws.{richer, FewerTurnsReach, FewerTurnsEndThere, FewerTurnsDontGoOn, MoreTurnsKeepCodeEnds, TurnsNeverGrow}
use Rattle.setl_store.specs.Standing.{variables, variables_in}
use Rattle.setl_machine_control.specs.Control.{ControlState}
use Rattle.setl_machine_control.specs.Declaring.{Modes, DeclarationTable, modes_of, tested}
use Rattle.setl_machine_control.specs.declared.end.End.{End}
use Rattle.setl_machine_control.specs.declared.end.End.TheVariants as end
use Rattle.setl_debug_machine.specs.code.Machines.{code_run, core_of, end_by, next_of, StandsAfter, StandsAt, StepsTo, EndsIn}
use Rattle.setl_debug_machine.specs.code.Walks.{most_turns, EndsAhead, GoesBeyond, GoesOn, IsAtTurns, IsWalk}
use Rattle.setl_debug_machine.specs.declared.follower.Ending.{Ending}
use Rattle.setl_debug_machine.specs.declared.machine.Machine.{Machine}
use Rattle.setl_debug_machine.specs.declared.machine.Stepped.{Stepped}
use Rattle.setl_debug_machine.specs.declared.machine.Stepped.TheVariants.{Went, Ended}
use Rattle.setl_debug_machine.specs.declared.walk.Walk.{Walk}
use Rattle.setl_debug_machine.proofs.Turns.{difference, enough_left, too_few_left}

-- the same core with so many turns fewer
abbrev less : ℕ → CodeCore → CodeCore
less d k = record k { world = record k.world { left = k.world.left - d } }

less_again : (d n : ℕ) → (n + d) - d ≡ n
less_again d n = omega arith

-- A walk stands at a state of the run with the most turns. A run with so many turns has all that is left there but the
-- difference.
module _ (never : TurnsNeverGrow) (d : DeclarationTable) (input : List ℕ) (turns : ℕ) (w : Walk) (few : turns < 2 ^ 63) (is : IsWalk d input w) (there : IsAtTurns turns w) where
  abbrev more : ℕ
  more = most_turns - turns

  within : turns ≤ most_turns
  within = omega (arith, few)

  reached : code_run d input (turns + more) w.steps ≡ Goes is.at
  reached = subst (λ k. code_run d input k w.steps ≡ Goes is.at) (difference most_turns turns within) is.reached

  enough : more ≤ is.at.core.world.left
  enough =
      let left = never (plain_code d.code) (tested (modes_of d)) w.steps (code_first (plain_code d.code) input most_turns) is.at is.reached in
      enough_left most_turns turns is.at.core.world.left w.tally.turns within left is.counted.turns there.within

  -- a machine that stands after as many steps stands there
  module _ (m : Machine) (stands : StandsAfter d input most_turns w.steps m) where
    here : StandsAt d is.at m
    here =
        let same : Goes stands.at ≡ Goes is.at = sym stands.reached ∙ is.reached in
        let at : stands.at ≡ is.at = cc in
        subst (λ s. StandsAt d s m) at stands.stands

    -- where the step behind it takes more turns than there are, the run with so many is spent there
    spent_by : FewerTurnsEndThere → (ahead : Stepped) → StepsTo d is.at w.machine ahead → GoesBeyond turns w.machine.control.turns ahead → GoesOn ahead → (body : ℕ) → body ≡ m.store.core.now.body → variables m.store.core ≡ variables_in (plain_code m.store.code) body →
        EndsIn d input turns (record { body = body; end = end.Spent }) m.store.core
    spent_by ends (Ended e) next beyond on body number names = absurd on
    spent_by ends (Went events) next beyond on body number names =
        let few_left = too_few_left most_turns turns next.0.core.world.left w.machine.control.turns (ap (λ (k : CodeCore). k.world.left) next.2.core) beyond in
        let s = ends (plain_code d.code) (tested (modes_of d)) input turns more w.steps is.at next.0 reached enough next.1 few_left in
        let same : (richer more s.0).core ≡ core_of m = ap (λ (x : State CodeCore). x.core) (sym s.2) ∙ here.core in
        record {
          steps = suc w.steps;
          last = s.0;
          ends = s.1;
          same = record {
            globals = sym (ap (λ (k : CodeCore). k.globals) same);
            own = sym (ap (λ (k : CodeCore). k.now.own) same);
            body = sym (ap (λ (k : CodeCore). k.now.body) same);
          };
          body = number ∙ sym (ap (λ (k : CodeCore). k.now.body) same);
          names = ap variables same ∙ names ∙ ap (λ (c : code.Code). variables_in (plain_code c) body) (sym here.serves.same);
        }

    pub ends_spent : FewerTurnsEndThere → GoesOn w.ahead → (body : ℕ) → body ≡ m.store.core.now.body → variables m.store.core ≡ variables_in (plain_code m.store.code) body → EndsIn d input turns (record { body = body; end = end.Spent }) m.store.core
    ends_spent ends on = spent_by ends w.ahead is.next there.last on

    -- with as many turns as the run with so many has left, it stands at the state of that run
    pub stands_with_fewer : FewerTurnsReach → (control : ControlState) → control ≡ record m.control { turns = m.control.turns - more } → StandsAfter d input turns w.steps (record m { control = control })
    stands_with_fewer reach control charged =
        let s = reach (plain_code d.code) (tested (modes_of d)) input turns more w.steps is.at reached enough in
        let same : (richer more s.0).core ≡ core_of m = ap (λ (x : State CodeCore). x.core) (sym s.2) ∙ here.core in
        let back : less more (richer more s.0).core ≡ s.0.core = ap (λ n. record s.0.core { world = record s.0.core.world { left = n } }) (less_again more s.0.core.world.left) in
        record {
          at = s.0;
          reached = s.1;
          stands = record {
            serves = here.serves;
            no_fault = ap (λ (k : ControlState). k.reader.fault) charged ∙ here.no_fault;
            core = sym back ∙ ap (less more) same ∙ ap (λ k. core_of (record m { control = k })) (sym charged);
            out = ap (λ (x : State CodeCore). x.out) (sym s.2) ∙ here.out;
          };
        }

  -- where the walk's step ends the run, the step with fewer turns doesn't go on
  ends_too : FewerTurnsReach → FewerTurnsDontGoOn → (ahead : Stepped) → StepsTo d is.at w.machine ahead → EndsAhead ahead → (s u : State CodeCore) → code_run d input turns w.steps ≡ Goes s → next_of d s ≡ Goes u → ⊥
  ends_too reach stop (Went events) next ends s u at goes = absurd ends
  ends_too reach stop (Ended e) next ends s u at goes =
      let t = reach (plain_code d.code) (tested (modes_of d)) input turns more w.steps is.at reached enough in
      let both : Goes t.0 ≡ Goes s = sym t.1 ∙ at in
      let same : t.0 ≡ s = cc in
      let richly : is.at ≡ richer more s = t.2 ∙ ap (richer more) same in
      stop (plain_code d.code) (tested (modes_of d)) more s u next.0 (end_by (modes_of d) e) (subst (λ (x : State CodeCore). next_of d x ≡ Ends (end_by (modes_of d) e) next.0) richly next.1) goes

  pub doesnt_go_on : FewerTurnsReach → FewerTurnsDontGoOn → EndsAhead w.ahead → (s u : State CodeCore) → code_run d input turns w.steps ≡ Goes s → next_of d s ≡ Goes u → ⊥
  doesnt_go_on reach stop ends = ends_too reach stop w.ahead is.next ends

-- ---- ends that are known

not_spent : (modes : Modes) (e : End) → (e ≡ end.Spent → ⊥) → end_by modes e ≡ run.Spent → ⊥
not_spent modes end.Done other h = absurd (cc)
not_spent modes (end.Stopped why line) other h = absurd (cc)
not_spent modes end.Spent other h = other refl
not_spent modes end.Paused other h = absurd (cc)
not_spent modes end.ReadFault other h = absurd (cc)
not_spent modes end.WriteFault other h = absurd (cc)
not_spent modes end.NoMemory other h = absurd (cc)
not_spent modes end.Stuck other h = absurd (cc)

-- a run that didn't end for want of turns ends so with more turns
pub ends_still : MoreTurnsKeepCodeEnds → (d : DeclarationTable) (input : List ℕ) (own turns : ℕ) (ending : Ending) (k : CodeCore) → own < turns → (ending.end ≡ end.Spent → ⊥) → EndsIn d input own ending k → EndsIn d input turns ending k
ends_still keep d input own turns ending k fewer other is =
    let kept = keep (plain_code d.code) (tested (modes_of d)) input own (turns - own) is.steps is.last (end_by (modes_of d) ending.end) (not_spent (modes_of d) ending.end other) is.ends in
    let whole : own + (turns - own) ≡ turns = omega (arith, fewer) in
    record {
      steps = is.steps;
      last = richer (turns - own) is.last;
      ends = subst (λ n. code_run d input n is.steps ≡ Ends (end_by (modes_of d) ending.end) (richer (turns - own) is.last)) whole kept;
      same = record { globals = is.same.globals; own = is.same.own; body = is.same.body };
      body = is.body;
      names = is.names;
    }
