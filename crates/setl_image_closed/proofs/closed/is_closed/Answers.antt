use Rattle.setl_image_closed.proofs.Closing.{closed_then, closed_else}
use Rattle.setl_image_closed.proofs.closed.is_closed.Goals as goal

pub returns-then-there : goal.returns-then-there
returns-then-there c =
    closed_then c.args.code.now c.args.n c.args.body.now c.counts_of-counts.result c.as_slice.result.now c.as_slice-2.result.now c.all_there-there.result c.is_ended-ended.result
    c.counts_of-counts.ensures c.as_slice.ensures c.as_slice-2.ensures c.all_there-there.ensures c.is_ended-ended.ensures c.if-there.true

pub returns-else-there : goal.returns-else-there
returns-else-there c =
    closed_else c.args.code.now c.args.n c.args.body.now c.counts_of-counts.result c.as_slice.result.now c.as_slice-2.result.now c.all_there-there.result c.is_ended-ended.result
    c.counts_of-counts.ensures c.as_slice.ensures c.as_slice-2.ensures c.all_there-there.ensures c.is_ended-ended.ensures c.if-there.false
