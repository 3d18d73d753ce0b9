use Rattle.setl_value.specs.code.Body.{Members}
use Rattle.setl_rep_based.proofs.Building.{IsBuilt}
use Rattle.setl_rep_based.proofs.sets.remote_set.Given as goal

abbrev pub invariant-loop-v : goal.invariant-loop-v
invariant-loop-v l = IsBuilt l.base l.bits l.v-iterator (Members l.s)
