use Rattle.std.proofs.Common.{◌≡◌, ◌<◌, ◌≤◌, ℕ, true, false, length, get_or}
use Rattle.setl_live_reads.specs.Masks.{Justified, ClosedAt, Outside, room_left}
use Rattle.setl_live_reads.proofs.sweep.sweep.Given as goal

abbrev pub invariant-window : goal.invariant-window
invariant-window l = record {
  place : (l.low ≤ l.block) × (l.block ≤ l.high);
  sizes : length l.masks ≡ length l.fn.masks;
  justified : Justified l.lasts l.gens l.passes l.low l.high l.fn.masks → Justified l.lasts l.gens l.passes l.low l.high l.masks;
  outside : (b : ℕ) → Outside l.low l.high b → get_or l.masks b 0 ≡ get_or l.fn.masks b 0;
  room : room_left l.masks ≤ room_left l.fn.masks;
  less : l.changed ≡ true → room_left l.masks < room_left l.fn.masks;
  closed : l.changed ≡ false → (b : ℕ) → l.block ≤ b → b < l.high → ClosedAt l.lasts l.gens l.passes l.masks b;
}

abbrev pub decreases-window : goal.decreases-window
decreases-window l = l.block
