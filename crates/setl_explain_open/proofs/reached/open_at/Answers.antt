use Rattle.setl_explain_open.proofs.Behind.{walks_on}
use Rattle.setl_explain_open.proofs.reached.open_at.Goals as goal

pub loop-i-preserved : goal.loop-i-preserved
loop-i-preserved c = walks_on c.args.list.now c.args.at c.loop-i.i _ _ _ (rw c.len-i-end.ensures.value at c.loop-i-test.true) c.in_ok-ended.ensures c.loop-i.invariant
