-- The worked rows of backtracking, by computation.
use Rattle.std.proofs.Common.{refl}
use Rattle.std.specs.Fmt.{digits}
use Rattle.setl_model.specs.Table.{AllHold}
use Rattle.setl_model.specs.worked.Backtracking.{back_rows, back_input_rows}
use Rattle.setl_model.proofs.ByRunning.{table_holds}

pub back_rows_hold : AllHold back_rows
unfolding digits
back_rows_hold = table_holds back_rows refl

pub back_input_rows_hold : AllHold back_input_rows
unfolding digits
back_input_rows_hold = table_holds back_input_rows refl
