use Rattle.std.proofs.Common.{◌≡◌, length}
use Rattle.setl_live_reads.specs.Ranges.{Spanned}
use Rattle.setl_live_reads.proofs.ranges.spans.Given as goal

abbrev pub invariant-steps : goal.invariant-steps
invariant-steps l = record {
  sizes : (length l.ranges.first.items ≡ l.rows) × (length l.ranges.last.items ≡ l.rows);
  spanned : Spanned l.nodes l.blocks l.rows l.ranges.first.items l.ranges.last.items l.at;
}
