use Rattle.setl_modes_fit.proofs.Decided.{neighbours_decide}
use Rattle.setl_modes_fit.proofs.neighbours_decide.Goals as goal

pub returns : goal.returns
returns c = neighbours_decide
