use Rattle.setl_model.proofs.tables.Maps.{map_rows_hold, put_rows_hold, tuple_put_rows_hold}
use Rattle.setl_model.proofs.worked.maps.Goals as goal

pub returns-clause-map_rows : goal.returns-clause-map_rows
returns-clause-map_rows c = map_rows_hold

pub returns-clause-put_rows : goal.returns-clause-put_rows
returns-clause-put_rows c = put_rows_hold

pub returns-clause-tuple_put_rows : goal.returns-clause-tuple_put_rows
returns-clause-tuple_put_rows c = tuple_put_rows_hold
