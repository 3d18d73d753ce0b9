use Rattle.std.proofs.Common.{◌≡◌, drop, fold}
use Rattle.setl_explain_open.specs.Opens.{at_start, behind_before}
use Rattle.setl_explain_open.proofs.reached.open_at.Given as goal

abbrev pub invariant-loop-i : goal.invariant-loop-i
invariant-loop-i l = fold (behind_before l.list.source l.at) (record { stack = l.stack.items; ended = l.ended }) (drop l.i l.list.tokens) ≡ fold (behind_before l.list.source l.at) at_start l.list.tokens
