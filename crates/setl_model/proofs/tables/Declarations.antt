-- The worked rows of declarations, by computation.
use Rattle.std.proofs.Common.{refl}
use Rattle.std.specs.Fmt.{digits}
use Rattle.setl_model.specs.Table.{AllHold}
use Rattle.setl_model.specs.worked.Declarations.{mode_rows, whole_value_rows, every_store_rows}
use Rattle.setl_model.proofs.ByRunning.{table_holds}

pub mode_rows_hold : AllHold mode_rows
unfolding digits
mode_rows_hold = table_holds mode_rows refl

pub whole_value_rows_hold : AllHold whole_value_rows
unfolding digits
whole_value_rows_hold = table_holds whole_value_rows refl

pub every_store_rows_hold : AllHold every_store_rows
unfolding digits
every_store_rows_hold = table_holds every_store_rows refl
