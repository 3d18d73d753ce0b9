use Rattle.std.proofs.Common.{◌≡◌}
use Rattle.setl_parse_reading.specs.code.Scan as scan
use Rattle.setl_parse_expressions.proofs.made.slots_as_exprs.Given as goal

abbrev pub invariant-loop-slot : goal.invariant-loop-slot
invariant-loop-slot l = l.found ≡ scan.slot_exprs l.yielded
