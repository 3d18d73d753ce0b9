use Rattle.std.proofs.Common.{arith, ap, ◌∙◌}
use Rattle.setl_value.proofs.PageDepths.{set_of_pages}
use Rattle.setl_value.proofs.counts.depth_of_pages.Goals as goal

pub depth_of-requires-clause-bound : goal.depth_of-requires-clause-bound
depth_of-requires-clause-bound c = omega (arith, set_of_pages c.loop-last.rest.now c.in-Some.others.now c.in-Some.last.now c.as_slice.result.now c.in-Some.ensures.cases.0 (c.as_slice.ensures.value ∙ ap (λ v. v.items) c.deref.ensures), c.loop-last.invariant.0, c.requires.bound)

pub returns-then-deepest-most : goal.returns-then-deepest-most
returns-then-deepest-most c = omega (arith, set_of_pages c.loop-last.rest.now c.in-Some.others.now c.in-Some.last.now c.as_slice.result.now c.in-Some.ensures.cases.0 (c.as_slice.ensures.value ∙ ap (λ v. v.items) c.deref.ensures), c.depth_of.ensures, c.max-deepest.ensures, c.loop-last.invariant.0, c.requires.bound, c.if-deepest-most.true)

pub loop-last-preserved : goal.loop-last-preserved
loop-last-preserved c =
    (omega (arith, set_of_pages c.loop-last.rest.now c.in-Some.others.now c.in-Some.last.now c.as_slice.result.now c.in-Some.ensures.cases.0 (c.as_slice.ensures.value ∙ ap (λ v. v.items) c.deref.ensures), c.depth_of.ensures, c.max-deepest.ensures, c.loop-last.invariant.0), omega (arith, c.max-deepest.ensures, c.loop-last.invariant.1))
