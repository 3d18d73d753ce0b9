use Rattle.std.specs.Prelude.{map, take}
use Rattle.std.specs.List.{AllByRecursion}
use Rattle.setl_value.specs.WellFormed.{PartIsWellFormed}
use Rattle.setl_value.specs.code.DatumOf.{part}
use Rattle.setl_value.proofs.tuples.learn_parts.Given as goal

abbrev pub invariant-loop-p : goal.invariant-loop-p
invariant-loop-p l = AllByRecursion PartIsWellFormed (map part (take l.p-index l.parts))
