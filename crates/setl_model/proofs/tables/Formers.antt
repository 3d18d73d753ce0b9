-- The worked rows of formers, by computation.
use Rattle.std.proofs.Common.{refl}
use Rattle.std.specs.Fmt.{digits}
use Rattle.setl_model.specs.Table.{AllHold}
use Rattle.setl_model.specs.worked.Formers.{former_rows, own_name_rows, selection_rows, former_stops}
use Rattle.setl_model.proofs.ByRunning.{table_holds}

pub former_rows_hold : AllHold former_rows
unfolding digits
former_rows_hold = table_holds former_rows refl

pub own_name_rows_hold : AllHold own_name_rows
unfolding digits
own_name_rows_hold = table_holds own_name_rows refl

pub selection_rows_hold : AllHold selection_rows
unfolding digits
selection_rows_hold = table_holds selection_rows refl

pub former_stops_hold : AllHold former_stops
unfolding digits
former_stops_hold = table_holds former_stops refl
