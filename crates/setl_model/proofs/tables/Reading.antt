-- The worked rows of reading, by computation.
use Rattle.std.proofs.Common.{refl}
use Rattle.std.specs.Fmt.{digits}
use Rattle.setl_model.specs.Table.{AllHold}
use Rattle.setl_model.specs.worked.Reading.{reading_rows, eof_rows, reading_stops}
use Rattle.setl_model.proofs.ByRunning.{table_holds}

pub reading_rows_hold : AllHold reading_rows
unfolding digits
reading_rows_hold = table_holds reading_rows refl

pub eof_rows_hold : AllHold eof_rows
unfolding digits
eof_rows_hold = table_holds eof_rows refl

pub reading_stops_hold : AllHold reading_stops
unfolding digits
reading_stops_hold = table_holds reading_stops refl
