use Rattle.std.proofs.Common.{◌<◌, ◌≤◌, ℕ, get_or}
use Rattle.setl_live_reads.proofs.window.widened.Given as goal

abbrev pub invariant-window : goal.invariant-window
invariant-window l = record {
  order : (l.from ≤ l.low) × (l.high ≤ l.to);
  done : (x : ℕ) → l.low < x → x < l.at → (l.from ≤ get_or l.sources.first.items x 0) × (get_or l.sources.last.items x 0 < l.to);
}
