-- The worked rows of maps, by computation.
use Rattle.std.proofs.Common.{refl}
use Rattle.std.specs.Fmt.{digits}
use Rattle.setl_model.specs.Table.{AllHold}
use Rattle.setl_model.specs.worked.Maps.{map_rows, put_rows, tuple_put_rows}
use Rattle.setl_model.proofs.ByRunning.{table_holds}

pub map_rows_hold : AllHold map_rows
unfolding digits
map_rows_hold = table_holds map_rows refl

pub put_rows_hold : AllHold put_rows
unfolding digits
put_rows_hold = table_holds put_rows refl

pub tuple_put_rows_hold : AllHold tuple_put_rows
unfolding digits
tuple_put_rows_hold = table_holds tuple_put_rows refl
