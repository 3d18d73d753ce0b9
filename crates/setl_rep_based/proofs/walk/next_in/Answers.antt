use Rattle.std.proofs.Common.{◌∙◌, sym, Some, None}
use Rattle.setl_rep_based.specs.Numbers.{numbers_in}
use Rattle.setl_rep_based.proofs.Walking.{takes, skips, ends, from_before, lives, nearer}
use Rattle.setl_rep_based.proofs.walk.next_in.Goals as goal

pub returns-then-test : goal.returns-then-test
returns-then-test c =
    from_before c.args.base.now (numbers_in c.args.numbers) c.args.after c.loop-e.at (Some c.in-Some.e) c.loop-e.invariant.same
    (takes c.tests_are_exact.ensures.membership c.sets_have_their_members.ensures.members c.args.base.now c.learn.ensures (numbers_in c.args.numbers) c.loop-e.at c.in-Some.e c.in-Some.ensures.next (sym c.test.ensures ∙ c.if-test.true))

pub loop-e-smaller : goal.loop-e-smaller
loop-e-smaller c = nearer c.args.base.now c.loop-e.at c.in-Some.e c.in-Some.ensures.next

pub loop-e-preserved : goal.loop-e-preserved
loop-e-preserved c = record {
  living = lives c.args.base.now c.loop-e.at c.in-Some.e c.in-Some.ensures.next;
  same = c.loop-e.invariant.same ∙ skips c.tests_are_exact.ensures.membership c.sets_have_their_members.ensures.members c.args.base.now c.learn.ensures (numbers_in c.args.numbers) c.loop-e.at c.in-Some.e c.in-Some.ensures.next (sym c.test.ensures ∙ c.if-test.false);
}

pub returns : goal.returns
returns c =
    from_before c.args.base.now (numbers_in c.args.numbers) c.args.after c.loop-e.at None c.loop-e.invariant.same
    (ends c.tests_are_exact.ensures.membership c.sets_have_their_members.ensures.members c.args.base.now c.learn.ensures (numbers_in c.args.numbers) c.loop-e.at c.in_default.ensures.last)
