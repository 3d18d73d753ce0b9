-- Walks over the states of a run.
use Rattle.std.proofs.Common.{◌≡◌, ◌∙◌, refl, sym, ap, subst, arith, ℕ, suc, List, [], ◌∷◌, ◌++◌, length, map, take}
use Rattle.std.specs.Prelude.{◌-◌, ◌^◌}
use Rattle.std.specs.Global.{Vec}
use Rattle.setl_model_runs.specs.Run.{State, Goes}
use Rattle.setl_watch.specs.HitCounts.{hits}
use Rattle.setl_watch.specs.Notices.{Notice, noticed}
use Rattle.setl_watch.specs.Profiles.{profile}
use Rattle.setl_watch.specs.Watches.{Watch}
use Rattle.setl_watch.specs.code.NoticeOf.{notice_of}
use Rattle.setl_watch.specs.declared.event.Event.{Event}
use Rattle.setl_code.specs.CodeCore.{CodeCore}
use Rattle.setl_code.specs.CodeMeans.{code_first}
use Rattle.setl_code.specs.Machine.{machine}
use Rattle.setl_code.specs.Plain.{plain_code}
use Rattle.setl_machine_control.specs.Declaring.{DeclarationTable, modes_of, tested}
use Rattle.setl_debug_machine.specs.Screens.{after_all}
use Rattle.setl_debug_machine.specs.code.Machines.{code_run, StandsAt, StepsTo, Writes}
use Rattle.setl_debug_machine.specs.code.Walks.{most_turns, NothingCounted, IsWalk, GoesOn}
use Rattle.setl_debug_machine.specs.declared.machine.Machine.{Machine}
use Rattle.setl_debug_machine.specs.declared.machine.Stepped.{Stepped}
use Rattle.setl_debug_machine.specs.declared.machine.Stepped.TheVariants.{Went, Ended}
use Rattle.setl_debug_machine.specs.declared.walk.Tally.{Tally}
use Rattle.setl_debug_machine.specs.declared.walk.Walk.{Walk}
use Rattle.setl_debug_machine.proofs.Counting.{after_more}
use Rattle.setl_debug_machine.proofs.Reaching.{step_more}

-- ---- at the first state

pub walks_first : (d : DeclarationTable) (input : List ℕ) (line : ℕ) (m : Machine) (t : Tally) (ahead : Stepped) → NothingCounted line t → StepsTo d (code_first (plain_code d.code) input most_turns) m ahead → IsWalk d input (record { machine = m; steps = 0; tally = t; ahead = ahead })
walks_first d input line m t ahead none steps =
    let all_left : 0 ≡ most_turns - most_turns = omega arith in
    record {
      at = code_first (plain_code d.code) input most_turns;
      reached = refl;
      counted = record {
        turns = none.turns ∙ all_left;
        written = ap (λ n. take n m.output) none.written;
        calls = ap profile none.calls;
        stores = none.stores ∙ ap (λ n. hits n 0) (sym none.at_line);
      };
      next = steps;
    }

-- ---- a step on

take_all : (xs ys : List ℕ) → take (length xs) (xs ++ ys) ≡ xs
take_all [] ys = refl
take_all (x ∷ xs) ys = ap (λ zs. x ∷ zs) (take_all xs ys)

-- what a watcher knows at the state ahead
told_more : (first now then : Watch) (before events after : List Notice) → now ≡ after_all first before → then ≡ after_all now events → after ≡ before ++ events → then ≡ after_all first after
told_more first now then before events after had told all =
    told ∙ ap (λ w. after_all w events) had ∙ sym (after_more first before events) ∙ ap (after_all first) (sym all)

-- the machine of a walk that goes on stands at the state ahead
pub stands_ahead : (d : DeclarationTable) (input : List ℕ) (w : Walk) → IsWalk d input w → GoesOn w.ahead → (u : State CodeCore) × StandsAt d u w.machine
stands_ahead d input w is on = go w.ahead is.next on
  where
    go : (ahead : Stepped) → StepsTo d is.at w.machine ahead → GoesOn ahead → (u : State CodeCore) × StandsAt d u w.machine
    go (Went events) x on = (x.0, x.2)
    go (Ended e) x on = absurd on

-- this was counted of the events ahead
pub record CountsMore (w : Walk) (events : List Event) (t : Tally) : Type 0 where
  pub turns : t.turns ≡ most_turns - w.machine.control.turns
  pub written : t.written ≡ length w.machine.output
  pub calls : profile t.profile ≡ after_all (profile w.tally.profile) (map notice_of events)
  pub stores : hits t.hits.line t.hits.stores ≡ after_all (hits w.tally.hits.line w.tally.hits.stores) (map notice_of events)
  pub at_line : t.line ≡ w.tally.line

pub walks_on : (d : DeclarationTable) (input : List ℕ) (w : Walk) (events : Vec Event) (m : Machine) (t : Tally) (ahead : Stepped) → IsWalk d input w → w.ahead ≡ Went events → CountsMore w events.items t → Writes w.machine.output m.output →
    ((s : State CodeCore) → StandsAt d s w.machine → StepsTo d s m ahead) → (next : ℕ) → next ≡ suc w.steps → IsWalk d input (record { machine = m; steps = next; tally = t; ahead = ahead })
walks_on d input w events m t ahead is went more writes does next one_more =
    let x : StepsTo d is.at w.machine (Went events) = subst (StepsTo d is.at w.machine) went is.next in
    record {
      at = x.0;
      reached = subst (λ n. code_run d input most_turns n ≡ Goes x.0) (sym one_more) (step_more (machine (plain_code d.code)) (tested (modes_of d)) w.steps (code_first (plain_code d.code) input most_turns) is.at (Goes x.0) is.reached x.1);
      counted = record {
        turns = more.turns ∙ ap (λ (k : CodeCore). most_turns - k.world.left) (sym x.2.core);
        written = ap (λ n. take n m.output) more.written ∙ ap (take (length w.machine.output)) writes.1 ∙ take_all w.machine.output writes.0 ∙ sym x.2.out;
        calls = told_more (profile []) (profile w.tally.profile) (profile t.profile) (map noticed is.at.events) (map notice_of events.items) (map noticed x.0.events) is.counted.calls more.calls x.3;
        stores =
            told_more (hits w.tally.line 0) (hits w.tally.hits.line w.tally.hits.stores) (hits t.hits.line t.hits.stores) (map noticed is.at.events) (map notice_of events.items) (map noticed x.0.events) is.counted.stores more.stores x.3
            ∙ ap (λ n. after_all (hits n 0) (map noticed x.0.events)) (sym more.at_line);
      };
      next = does x.0 x.2;
    }
