use Rattle.std.proofs.Common.{subst, sym, ◌+◌}
use Rattle.setl_rep_based.proofs.Handling.{AreHandled, goes_on}
use Rattle.setl_rep_based.proofs.sets.handles.Goals as goal

pub loop-i-preserved : goal.loop-i-preserved
loop-i-preserved c =
    subst (λ l. AreHandled c.args.base.now l (c.loop-i.i + 1) c.args.t.now) (sym c.in_ok-push.ensures.items)
    (goes_on c.args.base.now c.loop-i.list.items c.part_handle.result c.loop-i.i c.args.t.now c.part_handle.ensures.part c.part_handle.ensures.living c.loop-i.invariant)
