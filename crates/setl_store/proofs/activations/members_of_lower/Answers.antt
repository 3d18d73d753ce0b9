use Rattle.std.proofs.Common.{ℕ, ◌+◌, ◌-◌, length, arith}
use Rattle.setl_store.proofs.Leaving.{one_lower}
use Rattle.setl_store.proofs.activations.members_of_lower.Goals as goal

pub loop-i-preserved : goal.loop-i-preserved
loop-i-preserved c =
    let os = c.args.environment.now.now.operands in
    let n : ℕ = c.operands-count.result - 1 - c.loop-i.i in
    let lower = one_lower os (length os - c.loop-i.i) n (length os - (c.loop-i.i + 1)) c.operand.result.now c.loop-i.members c.members_below-members.result
    (omega (arith, c.operands-count.ensures, c.loop-i-test.true)) (omega (arith, c.operands-count.ensures, c.loop-i-test.true)) c.operand.ensures c.members_below-members.ensures c.loop-i.invariant.has in
    record { has = lower.0; fewer = omega (arith, lower.1, c.loop-i.invariant.fewer) }
