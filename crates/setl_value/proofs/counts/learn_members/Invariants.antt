use Rattle.std.specs.Prelude.{map, take}
use Rattle.std.specs.List.{AllByRecursion}
use Rattle.setl_value.specs.WellFormed.{IsWellFormed}
use Rattle.setl_value.specs.code.DatumOf.{datum}
use Rattle.setl_value.proofs.counts.learn_members.Given as goal

abbrev pub invariant-loop-v : goal.invariant-loop-v
invariant-loop-v l = AllByRecursion IsWellFormed (map datum (take l.v-index l.members))
