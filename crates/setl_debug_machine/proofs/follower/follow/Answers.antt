use Rattle.std.proofs.Common.{◌≡◌, ◌+◌, suc, subst, arith}
use Rattle.setl_model_runs.specs.Run.{State}
use Rattle.setl_code.specs.CodeCore.{CodeCore}
use Rattle.setl_debug_machine.specs.code.Machines.{StandsAfter, StandsAt, StepsTo}
use Rattle.setl_debug_machine.specs.code.Walks.{most_turns}
use Rattle.setl_debug_machine.proofs.Coming.{stands_on, goes_farther}
use Rattle.setl_debug_machine.proofs.follower.follow.Goals as goal

pub loop-k-preserved : goal.loop-k-preserved
loop-k-preserved c =
    let s = c.args.subject.now in
    let l = c.loop-k in
    let m = c.step.new.machine in
    let one : suc l.k ≡ l.k + 1 = omega arith in
    subst (λ n. StandsAfter s.declarations s.input.items most_turns n m) one
    (stands_on s.declarations s.input.items most_turns l.k l.machine m c.in-Went.field-0 l.invariant
    (subst (λ r. (t : State CodeCore) → StandsAt s.declarations t l.machine → StepsTo s.declarations t m r) c.in-Went.is c.in_ok-step.ensures.steps))

pub unreachable-requires : goal.unreachable-requires
unreachable-requires c =
    let s = c.args.subject.now in
    let l = c.loop-k in
    let m = c.step.new.machine in
    goes_farther s.declarations s.input.items most_turns l.k c.args.to l.machine m c.in-Ended.field-0 l.invariant
    (subst (λ r. (t : State CodeCore) → StandsAt s.declarations t l.machine → StepsTo s.declarations t m r) c.in-Ended.is c.in_ok-step.ensures.steps)
    (omega arith) c.requires.so_far
