use Rattle.setl_rep_based.proofs.Handling.{AreHandled}
use Rattle.setl_rep_based.proofs.sets.handles.Given as goal

abbrev pub invariant-loop-i : goal.invariant-loop-i
invariant-loop-i l = AreHandled l.base l.list.items l.i l.t
