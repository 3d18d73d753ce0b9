-- The worked rows of whole programs, by computation.
use Rattle.std.proofs.Common.{refl}
use Rattle.std.specs.Fmt.{digits}
use Rattle.setl_model.specs.Table.{AllHold}
use Rattle.setl_model.specs.worked.Whole.{whole_rows}
use Rattle.setl_model.proofs.ByRunning.{table_holds}

pub whole_rows_hold : AllHold whole_rows
unfolding digits
whole_rows_hold = table_holds whole_rows refl
