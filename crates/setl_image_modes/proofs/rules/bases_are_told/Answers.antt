use Rattle.setl_image_modes.proofs.Telling.{told}
use Rattle.setl_image_modes.proofs.rules.bases_are_told.Goals as goal

pub returns : goal.returns
returns c = told
