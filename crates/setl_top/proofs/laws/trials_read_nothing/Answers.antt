use Rattle.setl_top.proofs.Exclude.{trial_reads_nothing}
use Rattle.setl_top.proofs.laws.trials_read_nothing.Goals as goal

pub returns : goal.returns
returns c = trial_reads_nothing c.one_command.ensures
