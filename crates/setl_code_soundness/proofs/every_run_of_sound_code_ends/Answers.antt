use Rattle.setl_code_soundness.proofs.Running.{every_code_run_ends, no_code_is_stuck}
use Rattle.setl_code_soundness.proofs.every_run_of_sound_code_ends.Goals as goal

pub returns-clause-ends : goal.returns-clause-ends
returns-clause-ends c = every_code_run_ends

pub returns-clause-not_stuck : goal.returns-clause-not_stuck
returns-clause-not_stuck c = no_code_is_stuck
