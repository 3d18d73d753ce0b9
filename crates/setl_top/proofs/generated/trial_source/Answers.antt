use Rattle.std.proofs.Common.{refl, arith}
use Rattle.setl_top.specs.Trials.{trial_lines, trial_source}
use Rattle.setl_top.proofs.generated.trial_source.Goals as goal

pub returns : goal.returns
unfolding trial_lines trial_source
returns c = record { source = refl; short = omega arith }
