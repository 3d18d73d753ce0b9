use Rattle.std.proofs.Common.{refl}
use Rattle.setl_top.specs.code.Tries.{trial_starved}
use Rattle.setl_top.proofs.trial.try_program.Goals as goal

pub returns-in-Err : goal.returns-in-Err
returns-in-Err g c = rw c.break_off.ensures.tried.0 (trial_starved refl c.break_off.ensures.tried.1)
