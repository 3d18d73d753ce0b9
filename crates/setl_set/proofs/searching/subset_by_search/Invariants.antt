use Rattle.std.proofs.Common.{◌≡◌}
use Rattle.setl_value.specs.code.Body.{Members}
use Rattle.setl_set.specs.Sets.{is_subset}
use Rattle.setl_set.proofs.searching.subset_by_search.Given as goal

abbrev pub invariant-loop-v : goal.invariant-loop-v
invariant-loop-v l = is_subset l.v-iterator (Members l.large) ≡ is_subset l.initial.v-iterator (Members l.large)
