-- The worked rows of integers and booleans, by computation.
use Rattle.std.proofs.Common.{refl}
use Rattle.std.specs.Fmt.{digits}
use Rattle.setl_model.specs.Table.{AllHold}
use Rattle.setl_model.specs.worked.Integers.{integer_rows, wide_rows, integer_stops, boolean_rows}
use Rattle.setl_model.proofs.ByRunning.{table_holds}

pub integer_rows_hold : AllHold integer_rows
unfolding digits
integer_rows_hold = table_holds integer_rows refl

pub wide_rows_hold : AllHold wide_rows
unfolding digits
wide_rows_hold = table_holds wide_rows refl

pub integer_stops_hold : AllHold integer_stops
unfolding digits
integer_stops_hold = table_holds integer_stops refl

pub boolean_rows_hold : AllHold boolean_rows
unfolding digits
boolean_rows_hold = table_holds boolean_rows refl
