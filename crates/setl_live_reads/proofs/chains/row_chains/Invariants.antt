use Rattle.std.proofs.Common.{◌≡◌, length}
use Rattle.setl_live_reads.specs.Chains.{AreChains}
use Rattle.setl_live_reads.proofs.chains.row_chains.Given as goal

abbrev pub invariant-steps : goal.invariant-steps
invariant-steps l = record {
  sizes : (length l.chains.latest.items ≡ l.rows) × (length l.chains.earlier.items ≡ length l.nodes);
  chains : AreChains l.nodes l.rows l.at l.chains.latest.items l.chains.earlier.items;
}
