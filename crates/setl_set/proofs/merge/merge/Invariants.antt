use Rattle.std.proofs.Common.{◌≡◌, ◌++◌, ◌+◌, length, map}
use Rattle.setl_value.specs.code.Body.{Members}
use Rattle.setl_value.specs.code.DatumOf.{datum}
use Rattle.setl_set.specs.code.Merge.{front}
use Rattle.setl_set.proofs.Merging.{merged}
use Rattle.setl_set.proofs.merge.merge.Given as goal

abbrev pub invariant-loop-x : goal.invariant-loop-x
invariant-loop-x l = map datum l.kept.items ++ merged l.keep (front l.x l.left) (front l.y l.right) ≡ merged l.keep (Members l.a) (Members l.b)

abbrev pub decreases-loop-x : goal.decreases-loop-x
decreases-loop-x l = length (front l.x l.left) + length (front l.y l.right)
