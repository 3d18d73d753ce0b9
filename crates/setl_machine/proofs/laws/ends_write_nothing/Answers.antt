use Rattle.setl_machine.proofs.Ending.{ends_nothing}
use Rattle.setl_machine.proofs.laws.ends_write_nothing.Goals as goal

pub returns : goal.returns
returns c = ends_nothing
