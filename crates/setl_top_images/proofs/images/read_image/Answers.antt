use Rattle.setl_image.specs.Views.{image_of}
use Rattle.setl_top_images.proofs.images.read_image.Goals as goal

pub returns-in-Err-Unsound-clause-flaw : goal.returns-in-Err-Unsound-clause-flaw
returns-in-Err-Unsound-clause-flaw c = record {
  short = c.requires;
  image_of = image_of c.in-Ok.image;
  spelled = c.in-Ok.ensures.spelled;
  unsound = rw c.in-Err-Unsound.field-0-is at c.in-Err-Unsound.ensures.unsound;
}
