use Rattle.setl_image_format.proofs.Combined.{decodes_exactly, one_spelling}
use Rattle.setl_image_format.specs.ImageCodec.{image}
use Rattle.setl_image_format.proofs.ExactImage.{image_exact, smallest_is_written, smallest_is_read}
use Rattle.setl_image_format.proofs.images_are_exact.Goals as goal

pub returns-clause-exact : goal.returns-clause-exact
returns-clause-exact c = (image_exact, one_spelling image image_exact, decodes_exactly image image_exact)

pub returns-clause-row : goal.returns-clause-row
returns-clause-row c = (smallest_is_written, smallest_is_read)
