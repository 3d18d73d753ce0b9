use Rattle.setl_model.proofs.tables.Dumps.{dump_rows_hold}
use Rattle.setl_model.proofs.worked.dumps.Goals as goal

pub returns : goal.returns
returns c = record { dump_rows = dump_rows_hold }
