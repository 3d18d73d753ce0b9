use Rattle.setl_rep_entering.proofs.Undoing.{IsUndoing}
use Rattle.setl_rep_entering.proofs.enter.undo_all.Given as goal

abbrev pub invariant-loop-m : goal.invariant-loop-m
invariant-loop-m l = IsUndoing l.initial.bases l.bases l.m-iterator.rest.items l.fn.marks.items
