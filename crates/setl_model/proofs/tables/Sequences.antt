-- The worked rows of tuples and strings, by computation.
use Rattle.std.proofs.Common.{refl}
use Rattle.std.specs.Fmt.{digits}
use Rattle.setl_model.specs.Table.{AllHold}
use Rattle.setl_model.specs.worked.Sequences.{sequence_rows, copy_rows, component_rows, slice_rows}
use Rattle.setl_model.proofs.ByRunning.{table_holds}

pub sequence_rows_hold : AllHold sequence_rows
unfolding digits
sequence_rows_hold = table_holds sequence_rows refl

pub copy_rows_hold : AllHold copy_rows
unfolding digits
copy_rows_hold = table_holds copy_rows refl

pub component_rows_hold : AllHold component_rows
unfolding digits
component_rows_hold = table_holds component_rows refl

pub slice_rows_hold : AllHold slice_rows
unfolding digits
slice_rows_hold = table_holds slice_rows refl
