use Rattle.setl_explain_next.specs.Candidates.{candidates}
use Rattle.setl_explain_next.specs.Next.{GoesOn}
use Rattle.setl_explain_next.proofs.FirstLaws.{Continues}
use Rattle.setl_explain_next.proofs.kinds.next_kinds.Given as goal

abbrev pub invariant-loop-i : goal.invariant-loop-i
invariant-loop-i l = Continues (GoesOn l.source l.at) 10 candidates l.found.items l.i
