use Rattle.std.proofs.Common.{◌≡◌, ◌*◌, ◌/◌, ◌<◌, ◌≤◌, ℕ, List, Bool, false, length, get_or, Some}
use Rattle.std.specs.Prelude.{slice_get}
use Rattle.setl_live_reads.specs.declared.node.Access.TheVariants.{Read}
use Rattle.setl_live_reads.specs.declared.node.Node.{Node}
use Rattle.setl_live_reads.specs.Fronts.{IsFront}
use Rattle.setl_live_reads.specs.Masks.{IsHanded}
use Rattle.setl_live_reads.proofs.Straight.{IsReached}
use Rattle.setl_live_reads.proofs.Marking.{AreMarked}
use Rattle.setl_live_reads.proofs.marks.mark_steps.Given as goal

abbrev pub invariant-steps : goal.invariant-steps
invariant-steps l =
    (from : ℕ)
    × IsReached l.nodes l.row l.first l.end l.bound from
    × (length l.marks ≡ length l.fn.marks)
    × ((back : List Bool) → IsHanded back (l.row * 64) l.handed → IsFront l.nodes back l.row l.end l.out from l.live)
    × ((back : List Bool) → IsHanded back (l.row * 64) l.handed → AreMarked l.nodes back l.row l.end l.next l.out from l.marks)
    × ((step x : ℕ) (node : Node) → slice_get l.nodes step ≡ Some node → node.access ≡ Read x → (x / 64 ≡ l.row → l.first ≤ step → step < l.end → ⊥) → get_or l.marks step false ≡ get_or l.fn.marks step false)

abbrev pub decreases-steps : goal.decreases-steps
decreases-steps l = l.bound
