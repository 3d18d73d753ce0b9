use Rattle.setl_code_may_run.proofs.Running.{code_may_run}
use Rattle.setl_code_may_run.proofs.code_may_run.Goals as goal

pub returns : goal.returns
returns c = record { may_run = code_may_run }
