use Rattle.std.proofs.Common.{rules}
use Rattle.setl_model.specs.Iterations.{points_of}
use Rattle.setl_store_iterator.proofs.starts.begin.Goals as goal

pub returns-in_err-one-in-Points : goal.returns-in_err-one-in-Points
returns-in_err-one-in-Points c = let h = c.in_err-one-in-Points.ensures points_of in search rules
