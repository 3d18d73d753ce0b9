use Rattle.std.proofs.Common.{◌≡◌, length}
use Rattle.setl_live_reads.specs.Blocks.{Jumped}
use Rattle.setl_live_reads.proofs.blocks.jumped_steps.Given as goal

abbrev pub invariant-steps : goal.invariant-steps
invariant-steps l = record {
  sizes : length l.jumped.items ≡ length l.nodes;
  jumped : Jumped l.nodes l.jumped.items l.at;
}
