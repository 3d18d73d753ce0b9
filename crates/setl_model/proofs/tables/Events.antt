-- The worked rows of events, by computation.
use Rattle.std.proofs.Common.{refl}
use Rattle.std.specs.Fmt.{digits}
use Rattle.setl_model.specs.Table.{AllTell}
use Rattle.setl_model.specs.worked.Events.{event_rows}
use Rattle.setl_model.proofs.ByRunning.{table_tells}

pub event_rows_hold : AllTell event_rows
unfolding digits
event_rows_hold = table_tells event_rows refl
