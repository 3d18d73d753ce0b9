use Rattle.setl_rep_bases.proofs.Tabled.{main_added}
use Rattle.setl_rep_bases.proofs.bases.Bases.new.Goals as goal

pub loop-base-preserved : goal.loop-base-preserved
loop-base-preserved c = main_added c.loop-base.base c.loop-base.instances.entries c.add.new.table.entries c.in_ok-add.ensures.added c.loop-base.invariant
