use Rattle.std.proofs.Common.{◌≡◌, ◌<◌, ◌≤◌, ℕ, get_or, length}
use Rattle.setl_live_reads.specs.Masks.{EmptyOutside}
use Rattle.setl_live_reads.proofs.row.clear.Given as goal

abbrev pub invariant-window : goal.invariant-window
invariant-window l = record {
  sizes : length l.masks ≡ length l.fn.masks;
  outside : EmptyOutside l.low l.high l.masks;
  done : (at : ℕ) → l.low ≤ at → at < l.block → get_or l.masks at 0 ≡ 0;
}
