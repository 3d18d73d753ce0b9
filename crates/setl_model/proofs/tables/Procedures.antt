-- The worked rows of procedures, by computation.
use Rattle.std.proofs.Common.{refl}
use Rattle.std.specs.Fmt.{digits}
use Rattle.setl_model.specs.Table.{AllHold}
use Rattle.setl_model.specs.worked.Procedures.{call_rows, passing_rows, own_variable_rows}
use Rattle.setl_model.proofs.ByRunning.{table_holds}

pub call_rows_hold : AllHold call_rows
unfolding digits
call_rows_hold = table_holds call_rows refl

pub passing_rows_hold : AllHold passing_rows
unfolding digits
passing_rows_hold = table_holds passing_rows refl

pub own_variable_rows_hold : AllHold own_variable_rows
unfolding digits
own_variable_rows_hold = table_holds own_variable_rows refl
