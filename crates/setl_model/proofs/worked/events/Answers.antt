use Rattle.setl_model.proofs.tables.Events.{event_rows_hold}
use Rattle.setl_model.proofs.worked.events.Goals as goal

pub returns : goal.returns
returns c = record { event_rows = event_rows_hold }
