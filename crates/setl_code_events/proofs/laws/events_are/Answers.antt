use Rattle.setl_code_events.proofs.Telling as proved
use Rattle.setl_code_events.proofs.laws.events_are.Goals as goal

pub returns : goal.returns
returns c = proved.events_are
