use Rattle.setl_top.proofs.FirstFault.{failed_load_ends, failed_read_ends, failed_write_ends}
use Rattle.setl_top.proofs.laws.first_fault_ends.Goals as goal

pub returns : goal.returns
returns c = record { load = failed_load_ends; read = failed_read_ends; write = failed_write_ends }
