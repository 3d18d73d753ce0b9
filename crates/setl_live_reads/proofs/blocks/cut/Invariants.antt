use Rattle.setl_live_reads.specs.Blocks.{IsCut, Entered}
use Rattle.setl_live_reads.proofs.blocks.cut.Given as goal

abbrev pub invariant-steps : goal.invariant-steps
invariant-steps l = record {
  cut : IsCut l.nodes l.firsts.items l.blocks.items l.at;
  entered : Entered l.jumped l.firsts.items l.blocks.items l.at;
}
