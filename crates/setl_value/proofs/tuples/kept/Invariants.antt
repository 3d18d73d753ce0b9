use Rattle.std.specs.Prelude.{map, take, ◌≡◌, ◌≤◌, length}
use Rattle.setl_value.specs.WellFormed.{trim}
use Rattle.setl_value.specs.code.DatumOf.{part}
use Rattle.setl_value.proofs.tuples.kept.Given as goal

abbrev pub invariant-loop-n : goal.invariant-loop-n
invariant-loop-n l = (trim (map part (take l.n l.parts)) ≡ trim (map part l.parts)) × (l.n ≤ length l.parts)

abbrev pub decreases-loop-n : goal.decreases-loop-n
decreases-loop-n l = l.n
