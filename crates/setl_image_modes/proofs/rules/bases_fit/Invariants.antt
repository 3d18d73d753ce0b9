use Rattle.std.proofs.Common.{◌≡◌, drop}
use Rattle.setl_image_modes.specs.SoundModes.{bases_fit}
use Rattle.setl_image_modes.proofs.rules.bases_fit.Given as goal

abbrev pub invariant-loop-base : goal.invariant-loop-base
invariant-loop-base l = bases_fit (drop l.base-index l.bases) ≡ bases_fit l.bases
