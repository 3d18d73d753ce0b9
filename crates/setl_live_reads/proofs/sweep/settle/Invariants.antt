use Rattle.std.proofs.Common.{◌≡◌, ◌+◌, false, length}
use Rattle.std.specs.Prelude.{cond}
use Rattle.setl_live_reads.specs.Masks.{Justified, ClosedIn, EmptyOutside, room_left}
use Rattle.setl_live_reads.proofs.sweep.settle.Given as goal

abbrev pub invariant-sweeps : goal.invariant-sweeps
invariant-sweeps l = record {
  sizes : length l.masks ≡ length l.fn.masks;
  justified : Justified l.lasts l.gens l.passes l.low l.high l.masks;
  outside : EmptyOutside l.low l.high l.masks;
  closed : l.changed ≡ false → ClosedIn l.lasts l.gens l.passes l.low l.high l.masks;
}

-- a sweep that changes something leaves less room, and one that doesn't is the last
abbrev pub decreases-sweeps : goal.decreases-sweeps
decreases-sweeps l = room_left l.masks + room_left l.masks + cond l.changed 1 0
