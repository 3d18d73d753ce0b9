use Rattle.std.proofs.Common.{drop}
use Rattle.setl_rep_images.proofs.Points.{IsGathered}
use Rattle.setl_rep_images.proofs.domains.set_of.Given as goal

abbrev pub invariant-loop-n : goal.invariant-loop-n
invariant-loop-n l = IsGathered l.numbers (drop l.n-index l.list) l.list
