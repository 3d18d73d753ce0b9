-- The worked rows of comparisons, kinds and the canonical order, by computation.
use Rattle.std.proofs.Common.{refl}
use Rattle.std.specs.Fmt.{digits}
use Rattle.setl_model.specs.Table.{AllHold}
use Rattle.setl_model.specs.worked.Comparisons.{equality_rows, order_rows, membership_rows, kind_rows, canonical_rows}
use Rattle.setl_model.proofs.ByRunning.{table_holds}

pub equality_rows_hold : AllHold equality_rows
unfolding digits
equality_rows_hold = table_holds equality_rows refl

pub order_rows_hold : AllHold order_rows
unfolding digits
order_rows_hold = table_holds order_rows refl

pub membership_rows_hold : AllHold membership_rows
unfolding digits
membership_rows_hold = table_holds membership_rows refl

pub kind_rows_hold : AllHold kind_rows
unfolding digits
kind_rows_hold = table_holds kind_rows refl

pub canonical_rows_hold : AllHold canonical_rows
unfolding digits
canonical_rows_hold = table_holds canonical_rows refl
