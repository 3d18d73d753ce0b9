use Rattle.std.proofs.Common.{◌≤◌}
use Rattle.setl_live_reads.proofs.window.closed_window.Given as goal

abbrev pub invariant-widenings : goal.invariant-widenings
invariant-widenings l = record { order : (l.low ≤ l.from) × (l.to ≤ l.high); within : l.high ≤ l.count }
