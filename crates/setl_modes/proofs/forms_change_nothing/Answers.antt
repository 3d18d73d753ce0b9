use Rattle.setl_modes.proofs.Bare.{forms_change_nothing}
use Rattle.setl_modes.proofs.forms_change_nothing.Goals as goal

pub returns : goal.returns
returns c = forms_change_nothing
