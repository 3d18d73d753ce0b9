use Rattle.std.proofs.Common.{◌≡◌, length}
use Rattle.setl_live_reads.specs.Ranges.{Sourced}
use Rattle.setl_live_reads.proofs.ranges.sources.Given as goal

abbrev pub invariant-places : goal.invariant-places
invariant-places l = record {
  sizes : (length l.ranges.first.items ≡ length l.lasts) × (length l.ranges.last.items ≡ length l.lasts);
  sourced : Sourced l.lasts l.ranges.first.items l.ranges.last.items l.at;
}
