use Rattle.std.proofs.Common.{◌≡◌, ◌-◌, drop}
use Rattle.setl_parse_reading.specs.code.Scan as scan
use Rattle.setl_parse_cursor.proofs.lookahead.slots_ahead.Given as goal

abbrev pub invariant-slots : goal.invariant-slots
invariant-slots l = scan.slots_ahead (drop 1 l.tokens) ≡ scan.slots_ahead (drop l.at l.tokens)

abbrev pub decreases-slots : goal.decreases-slots
decreases-slots l = l.left - l.at
