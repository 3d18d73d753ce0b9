use Rattle.std.proofs.Common.{◌≡◌, ◌++◌, map}
use Rattle.setl_value.specs.code.Body.{Members}
use Rattle.setl_value.specs.code.DatumOf.{datum}
use Rattle.setl_rep_layout.specs.Found.{pairs_in}
use Rattle.setl_rep_layout.proofs.found.pairs.Given as goal

abbrev pub invariant-loop-v : goal.invariant-loop-v
invariant-loop-v l = map datum l.chosen.items ++ pairs_in l.v-iterator ≡ pairs_in (Members l.f)
