use Rattle.setl_text.proofs.Exact.{reads_exactly}
use Rattle.setl_text.proofs.laws.denotations_are_exact.Goals as goal

pub returns : goal.returns
returns c = reads_exactly
