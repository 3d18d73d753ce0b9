use Rattle.std.specs.Prelude.{◌≡◌, ◌≤◌, length, map, max}
use Rattle.setl_value.specs.Datum.{depth, tuple_of}
use Rattle.setl_value.specs.code.DatumOf.{part}
use Rattle.setl_value.proofs.tuples.depth_of.Given as goal

abbrev pub invariant-loop-last : goal.invariant-loop-last
invariant-loop-last l = (max l.deepest (depth (tuple_of (map part l.rest))) ≡ depth (tuple_of (map part l.parts))) × (1 ≤ l.deepest)

abbrev pub decreases-loop-last : goal.decreases-loop-last
decreases-loop-last l = length l.rest
