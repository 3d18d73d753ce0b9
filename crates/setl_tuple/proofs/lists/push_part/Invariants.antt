use Rattle.std.proofs.Common.{◌≡◌, ◌++◌, map, slice_range}
use Rattle.setl_value.specs.code.DatumOf.{part}
use Rattle.setl_tuple.proofs.lists.push_part.Given as goal

abbrev pub invariant-loop-i : goal.invariant-loop-i
invariant-loop-i l = map part l.parts.items ≡ map part l.initial.parts.items ++ slice_range l.t l.from l.i
