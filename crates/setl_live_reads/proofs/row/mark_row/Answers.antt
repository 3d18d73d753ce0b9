use Rattle.std.proofs.Common.{length, get_or}
use Rattle.setl_live_reads.proofs.Marking.{read_covered}
use Rattle.setl_live_reads.proofs.row.mark_row.Goals as goal

pub returns-clause-right : goal.returns-clause-right
returns-clause-right c at x node there reads same =
    let covered = read_covered c.args.nodes.now c.args.back.now c.args.row (get_or c.args.blocks.now.firsts.items c.sets-low.result.0 (length c.args.nodes.now)) (get_or c.args.blocks.now.firsts.items c.sets-low.result.1 (length c.args.nodes.now)) (c.sets-low.ensures.covers c.args.back.now c.handed_of-handed.ensures) at x node there reads same in
    c.mark.ensures.right c.args.back.now c.handed_of-handed.ensures (c.sets-low.ensures.tells c.args.back.now c.handed_of-handed.ensures) at x node covered.0 covered.1 there reads same
