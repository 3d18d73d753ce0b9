use Rattle.std.proofs.Common.{◌≡◌, drop}
use Rattle.setl_image_modes.specs.SoundModes.{vars_fit, modes_of}
use Rattle.setl_image_modes.proofs.rules.vars_fit.Given as goal

abbrev pub invariant-loop-variable : goal.invariant-loop-variable
invariant-loop-variable l = vars_fit (modes_of l.bases) (drop l.variable-index l.vars) ≡ vars_fit (modes_of l.bases) l.vars
