-- The worked rows of sets, by computation.
use Rattle.std.proofs.Common.{refl}
use Rattle.std.specs.Fmt.{digits}
use Rattle.setl_model.specs.Table.{AllHold}
use Rattle.setl_model.specs.worked.Sets.{set_rows, enumeration_rows, subset_rows, depth_rows}
use Rattle.setl_model.proofs.ByRunning.{table_holds}

pub set_rows_hold : AllHold set_rows
unfolding digits
set_rows_hold = table_holds set_rows refl

pub enumeration_rows_hold : AllHold enumeration_rows
unfolding digits
enumeration_rows_hold = table_holds enumeration_rows refl

pub subset_rows_hold : AllHold subset_rows
unfolding digits
subset_rows_hold = table_holds subset_rows refl

pub depth_rows_hold : AllHold depth_rows
unfolding digits
depth_rows_hold = table_holds depth_rows refl
