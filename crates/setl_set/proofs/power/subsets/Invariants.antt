use Rattle.std.proofs.Common.{map}
use Rattle.setl_value.specs.code.Body.{Members}
use Rattle.setl_value.specs.code.DatumOf.{datum}
use Rattle.setl_set.proofs.Chosen.{IsSearch}
use Rattle.setl_set.proofs.Search.{steps}
use Rattle.setl_set.proofs.power.subsets.Given as goal

abbrev pub invariant-loop-chosen : goal.invariant-loop-chosen
invariant-loop-chosen l = IsSearch l.least l.most (Members l.s) (map datum l.sets.items) l.chosen.items l.next

abbrev pub decreases-loop-chosen : goal.decreases-loop-chosen
decreases-loop-chosen l = steps l.most l.size l.chosen.items l.next
