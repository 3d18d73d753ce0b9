use Rattle.setl_base.proofs.OverTime.{handles_end}
use Rattle.setl_base.proofs.laws.handles_end.Goals as goal

pub returns : goal.returns
returns c = handles_end
