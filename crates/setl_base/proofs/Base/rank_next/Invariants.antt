use Rattle.std.proofs.Common.{◌+◌}
use Rattle.setl_base.specs.Least.{IsLeast}
use Rattle.setl_base.proofs.Base.rank_next.Given as goal

abbrev pub invariant-loop-place : goal.invariant-loop-place
invariant-loop-place l = IsLeast l.self l.after (l.place + 1) l.least
