use Rattle.std.proofs.Common.{◌∙◌, map}
use Rattle.setl_program.specs.code.Plain.{plain_procedure}
use Rattle.setl_advise_gathering.specs.code.Plain.{listed}
use Rattle.setl_advise_gathering.proofs.Links.{links_round, links_end, chain_done}
use Rattle.setl_advise_gathering.proofs.exprs.+expr.Goals as goal

pub links-loop-l-preserved : goal.links-loop-l-preserved
links-loop-l-preserved t c =
    links_round (map plain_procedure c.args.procedures.now) c.args.ls.now c.loop-l.l-index c.l-item.result (listed c.loop-l.all.items) (listed c.link.new.all.items) c.loop-l-test.true c.l-item.is c.in_ok-link.ensures
    ∙ c.loop-l.invariant

pub links-returns : goal.links-returns
links-returns t c = links_end (map plain_procedure c.args.procedures.now) c.args.ls.now c.loop-l.l-index (listed c.loop-l.all.items) _ c.loop-l-test.false c.loop-l.invariant

pub expr-returns-in_ok-links-in-Chain : goal.expr-returns-in_ok-links-in-Chain
expr-returns-in_ok-links-in-Chain t c =
    chain_done (map plain_procedure c.args.procedures.now) c.args.e.now c.in-Chain.first c.get.result.now c.in-Chain.ls c.as_slice-in-Chain.result.now (listed c.args.all.now.items) (listed c.expr.new.all.items) (listed c.links.new.all.items)
    c.in-Chain.is c.get.ensures c.as_slice-in-Chain.ensures c.in_ok-expr-in-Chain.ensures c.in_ok-links-in-Chain.ensures
