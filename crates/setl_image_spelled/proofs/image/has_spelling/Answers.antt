use Rattle.std.proofs.Common.{sym, subst}
use Rattle.std.specs.Prelude.{◌↔◌, IsTrue}
use Rattle.setl_image_format.specs.ImageCodec as spec
use Rattle.setl_image.specs.Views.{image_of}
use Rattle.setl_image_spelled.proofs.Telling.{image_tells}
use Rattle.setl_image_spelled.proofs.image.has_spelling.Goals as goal

pub returns : goal.returns
returns c = subst (λ b. IsTrue b ↔ spec.image.Fits (image_of c.args.image.now)) (sym c.image_fits.ensures) (image_tells c.bases_are_told.ensures c.args.image.now)
