use Rattle.setl_live_reads.proofs.Cutting.{blocks_some, cut_more}
use Rattle.setl_live_reads.proofs.blocks.cut.Goals as goal

pub place-requires-clause-some : goal.place-requires-clause-some
place-requires-clause-some c not = blocks_some c.args.nodes.now c.steps.firsts.items c.steps.blocks.items c.steps.at c.steps.invariant.cut (c.begins-is_first.ensures.first not)

pub steps-preserved : goal.steps-preserved
steps-preserved c =
    let both = cut_more c.args.nodes.now c.args.jumped.now c.steps.firsts.items c.place.new.firsts.items c.steps.blocks.items c.place.new.blocks.items c.steps.at c.begins-is_first.result c.begins-is_first.ensures.first c.begins-is_first.ensures.entered c.begins-is_first.ensures.plain c.in_ok-place.ensures.begun c.in_ok-place.ensures.same c.in_ok-place.ensures.blocks c.steps.invariant.cut c.steps.invariant.entered in
    record { cut = both.0; entered = both.1 }
