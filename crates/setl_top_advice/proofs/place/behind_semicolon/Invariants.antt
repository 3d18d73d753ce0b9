use Rattle.std.proofs.Common.{◌≤◌}
use Rattle.setl_top_advice.proofs.place.behind_semicolon.Given as goal

abbrev pub invariant-loop-k : goal.invariant-loop-k
invariant-loop-k l = l.initial.i ≤ l.k
