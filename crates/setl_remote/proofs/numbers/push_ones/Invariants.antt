use Rattle.std.proofs.Common.{◌≡◌, ◌+◌}
use Rattle.setl_remote.specs.Words.{ones}
use Rattle.setl_remote.proofs.numbers.push_ones.Given as goal

abbrev pub invariant-loop-k : goal.invariant-loop-k
invariant-loop-k l = l.list.items ≡ ones l.words (l.first + l.k)
