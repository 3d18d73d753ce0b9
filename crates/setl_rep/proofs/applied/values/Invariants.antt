use Rattle.setl_rep.proofs.Reading.{IsRead}
use Rattle.setl_rep.proofs.applied.values.Given as goal

abbrev pub invariant-loop-h : goal.invariant-loop-h
invariant-loop-h l = IsRead l.bases l.values.items l.h-iterator.rest.items l.fn.args.items
