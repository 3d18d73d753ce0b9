-- The worked rows of updates of places, by computation.
use Rattle.std.proofs.Common.{refl}
use Rattle.std.specs.Fmt.{digits}
use Rattle.setl_model.specs.Table.{AllHold}
use Rattle.setl_model.specs.worked.Updates.{update_rows, nested_rows, taking_rows, parting_rows}
use Rattle.setl_model.proofs.ByRunning.{table_holds}

pub update_rows_hold : AllHold update_rows
unfolding digits
update_rows_hold = table_holds update_rows refl

pub nested_rows_hold : AllHold nested_rows
unfolding digits
nested_rows_hold = table_holds nested_rows refl

pub taking_rows_hold : AllHold taking_rows
unfolding digits
taking_rows_hold = table_holds taking_rows refl

pub parting_rows_hold : AllHold parting_rows
unfolding digits
parting_rows_hold = table_holds parting_rows refl
