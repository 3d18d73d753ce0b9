use Rattle.setl_advise_lattice.specs.code.Levels.{shape_of}
use Rattle.setl_advise_terms.specs.code.Plain.{flows_of}
use Rattle.setl_advise_terms.proofs.Links.{links_round, links_end}
use Rattle.setl_advise_terms.proofs.shapes.+shape.Goals as goal

pub links-loop-l-preserved : goal.links-loop-l-preserved
links-loop-l-preserved t c =
    links_round (flows_of c.args.table.now) c.args.ls.now c.loop-l.l-index c.l-item.result (shape_of c.args.w) (shape_of c.loop-l.all) (shape_of c.in_ok-all.all) c.loop-l-test.true c.l-item.is c.in_ok-all.ensures c.loop-l.invariant

pub links-returns : goal.links-returns
links-returns t c = links_end (flows_of c.args.table.now) c.args.ls.now c.loop-l.l-index (shape_of c.args.w) (shape_of c.loop-l.all) c.loop-l-test.false c.loop-l.invariant
