use Rattle.setl_model.proofs.LanguageRows.{counting_row, all_counted_row, reading_row, reading_stops_row, emptied_set_row, taken_apart_row, nested_places_row}
use Rattle.setl_model.proofs.worked_statements.Goals as goal

pub returns-clause-counting : goal.returns-clause-counting
returns-clause-counting c = counting_row

pub returns-clause-all_counted : goal.returns-clause-all_counted
returns-clause-all_counted c = all_counted_row

pub returns-clause-reading : goal.returns-clause-reading
returns-clause-reading c = reading_row

pub returns-clause-reading_stops : goal.returns-clause-reading_stops
returns-clause-reading_stops c = reading_stops_row

pub returns-clause-emptied_set : goal.returns-clause-emptied_set
returns-clause-emptied_set c = emptied_set_row

pub returns-clause-taken_apart : goal.returns-clause-taken_apart
returns-clause-taken_apart c = taken_apart_row

pub returns-clause-nested_places : goal.returns-clause-nested_places
returns-clause-nested_places c = nested_places_row
