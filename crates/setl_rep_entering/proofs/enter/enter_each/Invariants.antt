use Rattle.setl_rep_entering.proofs.Undoing.{IsEntering}
use Rattle.setl_rep_entering.proofs.enter.enter_each.Given as goal

abbrev pub invariant-loop-p : goal.invariant-loop-p
invariant-loop-p l = IsEntering l.initial.bases l.bases l.p-iterator.rest.items l.fn.places.items
