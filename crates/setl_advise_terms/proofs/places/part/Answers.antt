use Rattle.std.proofs.Common.{◌∙◌}
use Rattle.setl_advise_lattice.specs.code.Levels.{flow_of}
use Rattle.setl_advise_terms.proofs.Parts.{part_round}
use Rattle.setl_advise_terms.proofs.places.part.Goals as goal

pub loop-s-preserved : goal.loop-s-preserved
loop-s-preserved c t =
    part_round t c.args.ss.now c.loop-s.s-index c.s-item.result (flow_of c.loop-s.all) (flow_of c.inner-all.result) c.loop-s-test.true c.s-item.is (c.inner-all.ensures t)
    ∙ c.loop-s.invariant t
