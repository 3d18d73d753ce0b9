use Rattle.std.proofs.Common.{ℕ, List, Bool, ◌*◌}
use Rattle.setl_live_reads.specs.Fronts.{IsFront}
use Rattle.setl_live_reads.specs.Masks.{IsHanded}
use Rattle.setl_live_reads.proofs.Straight.{IsReached}
use Rattle.setl_live_reads.proofs.fronts.fronts.Given as goal

abbrev pub invariant-steps : goal.invariant-steps
invariant-steps l =
    (from : ℕ)
    × IsReached l.nodes l.row l.first l.end l.bound from
    × ((back : List Bool) → IsHanded back (l.row * 64) l.handed → IsFront l.nodes back l.row l.end 0 from l.read)
    × ((back : List Bool) → IsHanded back (l.row * 64) l.handed → IsFront l.nodes back l.row l.end 18446744073709551615 from l.passed)

abbrev pub decreases-steps : goal.decreases-steps
decreases-steps l = l.bound
