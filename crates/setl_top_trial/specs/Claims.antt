-- The trial's source is a program.
use Rattle.setl_program.specs.Program.{Program}
use Rattle.setl_top.specs.Accepted.{Accepted}
use Rattle.setl_top.specs.Trials.{trial_source}

abbrev pub TrialIsAccepted : Type 0
TrialIsAccepted = (program : Program) × Accepted trial_source program
