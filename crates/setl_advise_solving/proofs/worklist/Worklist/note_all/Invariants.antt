use Rattle.std.proofs.Common.{◌≤◌, length}
use Rattle.setl_advise_solving.proofs.worklist.Worklist.note_all.Given as goal

abbrev pub invariant-conditions : goal.invariant-conditions
invariant-conditions l = l.k ≤ length l.conditions

abbrev pub decreases-conditions : goal.decreases-conditions
decreases-conditions l = l.k
