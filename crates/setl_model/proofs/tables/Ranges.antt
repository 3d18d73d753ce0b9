-- The worked rows of ranges, by computation.
use Rattle.std.proofs.Common.{refl}
use Rattle.std.specs.Fmt.{digits}
use Rattle.setl_model.specs.Table.{AllHold}
use Rattle.setl_model.specs.worked.Ranges.{range_rows}
use Rattle.setl_model.proofs.ByRunning.{table_holds}

pub range_rows_hold : AllHold range_rows
unfolding digits
range_rows_hold = table_holds range_rows refl
