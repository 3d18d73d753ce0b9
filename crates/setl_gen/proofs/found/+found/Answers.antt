use Rattle.std.proofs.Common.{◌∙◌}
use Rattle.setl_gen.proofs.Links.{found_round, found_links, found_chain}
use Rattle.setl_gen.proofs.found.+found.Goals as goal

pub links-loop-l-preserved : goal.links-loop-l-preserved
links-loop-l-preserved t c =
    found_round c.args.ls.now c.loop-l.l-index c.l-item.result c.loop-l.all c.link.new.all c.loop-l-test.true c.l-item.is c.in_ok-link.ensures
    ∙ c.loop-l.invariant

pub links-returns : goal.links-returns
links-returns t c = found_links c.args.ls.now c.loop-l.l-index c.loop-l.all _ c.loop-l-test.false c.loop-l.invariant

pub expr-returns-in_ok-links-in-Chain : goal.expr-returns-in_ok-links-in-Chain
expr-returns-in_ok-links-in-Chain t c =
    found_chain c.args.e.now c.in-Chain.first c.get.result.now c.in-Chain.ls c.as_slice-in-Chain.result.now c.args.all.now c.expr.new.all c.links.new.all
    c.in-Chain.is c.get.ensures c.as_slice-in-Chain.ensures c.in_ok-expr-in-Chain.ensures c.in_ok-links-in-Chain.ensures
