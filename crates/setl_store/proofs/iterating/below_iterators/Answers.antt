use Rattle.std.proofs.Common.{◌≡◌, ◌+◌, ◌-◌, suc, drop, subst, arith}
use Rattle.setl_store.specs.Iterating.{AreIterators}
use Rattle.setl_store.proofs.Adding.{nowhere_few, nowhere_at, iterators_from, lower}
use Rattle.setl_store.proofs.iterating.below_iterators.Goals as goal

pub returns-then-all-lowest-clause-nowhere : goal.returns-then-all-lowest-clause-nowhere
returns-then-all-lowest-clause-nowhere c bs value = nowhere_few bs c.args.environment.now.now c.args.count value (omega (arith, c.if-all-lowest.true, c.operands-all.ensures, c.lowest.ensures))

pub returns-then-not-is_iterator-clause-nowhere : goal.returns-then-not-is_iterator-clause-nowhere
returns-then-not-is_iterator-clause-nowhere c bs value =
    let e = c.args.environment.now.now in
    let n = c.loop-at.at - 1 in
    let m = c.loop-at.at - (c.operands-all.result - c.args.count) - 1 in
    let same : c.loop-at.at ≡ suc n = omega arith in
    nowhere_at bs e n c.operand.result.now c.requires.some (omega (arith)) c.operand.ensures c.args.count (m + 1) value
    (subst (λ k. AreIterators (drop k e.operands)) same c.loop-at.invariant.passed)
    (omega arith)
    (c.is_iterator.ensures.is_not c.if-not-is_iterator.true m value bs e.members (lower bs e n))

pub loop-at-preserved : goal.loop-at-preserved
loop-at-preserved c = record {
  within = omega arith;
  passed = iterators_from c.args.environment.now.now.operands (c.loop-at.at - 1) c.loop-at.at c.operand.result.now (omega arith) c.operand.ensures (c.is_iterator.ensures.is c.if-not-is_iterator.false) c.loop-at.invariant.passed;
}

pub returns-clause-above : goal.returns-clause-above
returns-clause-above c = subst (λ k. AreIterators (drop k c.args.environment.now.now.operands)) (omega arith) c.loop-at.invariant.passed
