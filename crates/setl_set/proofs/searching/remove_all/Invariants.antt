use Rattle.std.proofs.Common.{◌≡◌}
use Rattle.setl_value.specs.code.Body.{Members}
use Rattle.setl_set.specs.Sets.{minus_of}
use Rattle.setl_set.proofs.searching.remove_all.Given as goal

abbrev pub invariant-loop-v : goal.invariant-loop-v
invariant-loop-v l = minus_of (Members l.s) l.v-iterator ≡ minus_of (Members l.initial.s) l.initial.v-iterator
