use Rattle.setl_code_events.proofs.Ending as proved
use Rattle.setl_code_events.proofs.laws.ends_tell_nothing.Goals as goal

pub returns : goal.returns
returns c = proved.ends_tell_nothing
