use Rattle.std.specs.Prelude.{◌≡◌, ◌≤◌, map, take}
use Rattle.setl_value.specs.code.DatumOf.{datum}
use Rattle.setl_value.specs.Pairs.{other_count}
use Rattle.setl_value.proofs.counts.others_in.Given as goal

abbrev pub invariant-loop-v : goal.invariant-loop-v
invariant-loop-v l = (l.count ≡ other_count (map datum (take l.v-index l.members))) × (l.count ≤ l.v-index)
