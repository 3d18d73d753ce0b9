use Rattle.std.proofs.Common.{◌≡◌, ◌+◌, length}
use Rattle.setl_value.specs.code.Body.{Members}
use Rattle.setl_set.specs.code.Merge.{front}
use Rattle.setl_set.proofs.Included.{included}
use Rattle.setl_set.proofs.rising.subset.Given as goal

abbrev pub invariant-loop-x : goal.invariant-loop-x
invariant-loop-x l = included (front l.x l.left) (front l.y l.right) ≡ included (Members l.a) (Members l.b)

abbrev pub decreases-loop-x : goal.decreases-loop-x
decreases-loop-x l = length (front l.x l.left) + length (front l.y l.right)
