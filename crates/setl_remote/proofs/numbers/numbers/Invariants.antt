use Rattle.std.proofs.Common.{◌≡◌, ◌*◌}
use Rattle.setl_remote.specs.Words.{ones}
use Rattle.setl_remote.proofs.numbers.numbers.Given as goal

abbrev pub invariant-loop-i : goal.invariant-loop-i
invariant-loop-i l = l.list.items ≡ ones l.words (64 * l.i)
