use Rattle.std.proofs.Common.{length, ◌-◌}
use Rattle.setl_top_advice.proofs.place.behind_vars.Given as goal

abbrev pub decreases-vars : goal.decreases-vars
decreases-vars l = length l.list.tokens - l.i
