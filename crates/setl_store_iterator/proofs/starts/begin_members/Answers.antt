use Rattle.std.proofs.Common.{rules}
use Rattle.setl_model.specs.Iterations.{values_of}
use Rattle.setl_store_iterator.proofs.starts.begin_members.Goals as goal

pub returns-in_err-one-in-Values : goal.returns-in_err-one-in-Values
returns-in_err-one-in-Values c = let h = c.in_err-one-in-Values.ensures values_of in search rules
