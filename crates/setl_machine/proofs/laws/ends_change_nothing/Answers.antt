use Rattle.setl_machine.proofs.Ending.{changes_nothing}
use Rattle.setl_machine.proofs.laws.ends_change_nothing.Goals as goal

pub returns : goal.returns
returns c = changes_nothing c.ends_tell_nothing.ensures
