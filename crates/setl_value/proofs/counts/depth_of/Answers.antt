use Rattle.std.proofs.Common.{arith}
use Rattle.setl_value.proofs.Depths.{set_of_rest}
use Rattle.setl_value.proofs.counts.depth_of.Goals as goal

pub overflow_add-depth : goal.overflow_add-depth
overflow_add-depth c = omega (arith, set_of_rest c.loop-last.rest.now c.in-Some.others.now c.in-Some.last.now c.in-Some.ensures.cases.0, c.depth.ensures, c.loop-last.invariant.0)

pub returns-then-deepest-most : goal.returns-then-deepest-most
returns-then-deepest-most c = omega (arith, set_of_rest c.loop-last.rest.now c.in-Some.others.now c.in-Some.last.now c.in-Some.ensures.cases.0, c.depth.ensures, c.max-deepest.ensures, c.loop-last.invariant.0)

pub loop-last-preserved : goal.loop-last-preserved
loop-last-preserved c =
    (omega (arith, set_of_rest c.loop-last.rest.now c.in-Some.others.now c.in-Some.last.now c.in-Some.ensures.cases.0, c.depth.ensures, c.max-deepest.ensures, c.loop-last.invariant.0), omega (arith, c.max-deepest.ensures, c.loop-last.invariant.1))
