-- The worked rows of folds and texts, by computation.
use Rattle.std.proofs.Common.{refl}
use Rattle.std.specs.Fmt.{digits}
use Rattle.setl_model.specs.Table.{AllHold}
use Rattle.setl_model.specs.worked.Folds.{fold_rows, text_rows}
use Rattle.setl_model.proofs.ByRunning.{table_holds}

pub fold_rows_hold : AllHold fold_rows
unfolding digits
fold_rows_hold = table_holds fold_rows refl

pub text_rows_hold : AllHold text_rows
unfolding digits
text_rows_hold = table_holds text_rows refl
