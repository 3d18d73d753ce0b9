use Rattle.setl_model.proofs.tables.Integers.{integer_rows_hold, wide_rows_hold, integer_stops_hold, boolean_rows_hold}
use Rattle.setl_model.proofs.worked.integers.Goals as goal

pub returns-clause-integer_rows : goal.returns-clause-integer_rows
returns-clause-integer_rows c = integer_rows_hold

pub returns-clause-wide_rows : goal.returns-clause-wide_rows
returns-clause-wide_rows c = wide_rows_hold

pub returns-clause-integer_stops : goal.returns-clause-integer_stops
returns-clause-integer_stops c = integer_stops_hold

pub returns-clause-boolean_rows : goal.returns-clause-boolean_rows
returns-clause-boolean_rows c = boolean_rows_hold
