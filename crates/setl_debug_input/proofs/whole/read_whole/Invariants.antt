use Rattle.std.proofs.Common.{◌≡◌, ◌+◌, ◌-◌, length}
use Rattle.std.specs.Io.KnownBytes.{Consumes}
use Rattle.setl_debug_input.proofs.whole.read_whole.Given as goal

abbrev pub invariant-loop-room : goal.invariant-loop-room
invariant-loop-room g l =
    let left = g.I.Source.left in
    let faults = g.I.Source.faults in
    record {
      taken : Consumes (left l.fn.input) (left l.input) l.taken.items;
      count : faults l.input ≡ faults l.fn.input;
    }

abbrev pub decreases-loop-room : goal.decreases-loop-room
decreases-loop-room g l = l.limit + 1 - length l.taken.items
