use Rattle.std.proofs.Common.{◌+◌}
use Rattle.setl_rep_images.proofs.Points.{HasBelow}
use Rattle.setl_rep_images.proofs.domains.remote_points.Given as goal

abbrev pub invariant-loop-n : goal.invariant-loop-n
invariant-loop-n l = HasBelow l.slots (l.n + 1) l.numbers
