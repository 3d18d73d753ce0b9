use Rattle.setl_top.proofs.Exclude.{faulty_reads_nothing}
use Rattle.setl_top.proofs.laws.faulty_words_read_nothing.Goals as goal

pub returns : goal.returns
returns c = faulty_reads_nothing
