use Rattle.setl_model.proofs.tables.Ranges.{range_rows_hold}
use Rattle.setl_model.proofs.worked.ranges.Goals as goal

pub returns : goal.returns
returns c = record { range_rows = range_rows_hold }
