-- The worked rows of quantifiers, by computation.
use Rattle.std.proofs.Common.{refl}
use Rattle.std.specs.Fmt.{digits}
use Rattle.setl_model.specs.Table.{AllHold}
use Rattle.setl_model.specs.worked.Quantifiers.{quantifier_rows}
use Rattle.setl_model.proofs.ByRunning.{table_holds}

pub quantifier_rows_hold : AllHold quantifier_rows
unfolding digits
quantifier_rows_hold = table_holds quantifier_rows refl
