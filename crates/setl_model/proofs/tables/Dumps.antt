-- The worked rows of dumps, by computation.
use Rattle.std.proofs.Common.{refl}
use Rattle.std.specs.Fmt.{digits}
use Rattle.setl_model.specs.Table.{AllDump}
use Rattle.setl_model.specs.worked.Dumps.{dump_rows}
use Rattle.setl_model.proofs.ByRunning.{table_dumps}

pub dump_rows_hold : AllDump dump_rows
unfolding digits
dump_rows_hold = table_dumps dump_rows refl
