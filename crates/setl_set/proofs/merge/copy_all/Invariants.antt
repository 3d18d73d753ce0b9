use Rattle.std.proofs.Common.{◌≡◌, ◌++◌, map}
use Rattle.setl_value.specs.code.DatumOf.{datum}
use Rattle.setl_set.proofs.merge.copy_all.Given as goal

abbrev pub invariant-loop-v : goal.invariant-loop-v
invariant-loop-v l = map datum l.kept.items ++ l.v-iterator ≡ map datum l.initial.kept.items ++ l.initial.v-iterator
