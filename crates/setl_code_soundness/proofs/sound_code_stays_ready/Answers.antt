use Rattle.setl_code_soundness.proofs.Running.{starts_ready, stays_ready, reached_are_ready, ready_finds}
use Rattle.setl_code_soundness.proofs.sound_code_stays_ready.Goals as goal

pub returns-clause-starts : goal.returns-clause-starts
returns-clause-starts c = starts_ready

pub returns-clause-stays : goal.returns-clause-stays
returns-clause-stays c = stays_ready

pub returns-clause-reached : goal.returns-clause-reached
returns-clause-reached c = reached_are_ready

pub returns-clause-finds : goal.returns-clause-finds
returns-clause-finds c = ready_finds
