use Rattle.setl_model.proofs.tables.Whole.{whole_rows_hold}
use Rattle.setl_model.proofs.worked.whole.Goals as goal

pub returns : goal.returns
returns c = record { whole_rows = whole_rows_hold }
