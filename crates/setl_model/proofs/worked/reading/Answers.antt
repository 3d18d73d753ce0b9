use Rattle.setl_model.proofs.tables.Reading.{reading_rows_hold, eof_rows_hold, reading_stops_hold}
use Rattle.setl_model.proofs.worked.reading.Goals as goal

pub returns-clause-reading_rows : goal.returns-clause-reading_rows
returns-clause-reading_rows c = reading_rows_hold

pub returns-clause-eof_rows : goal.returns-clause-eof_rows
returns-clause-eof_rows c = eof_rows_hold

pub returns-clause-reading_stops : goal.returns-clause-reading_stops
returns-clause-reading_stops c = reading_stops_hold
