use Rattle.setl_machine.proofs.Ending.{steps_add}
use Rattle.setl_machine.proofs.laws.steps_add.Goals as goal

pub returns : goal.returns
returns c = steps_add
