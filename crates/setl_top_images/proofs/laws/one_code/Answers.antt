use Rattle.setl_top_images.proofs.Flaws.{one_image, one_flaw, not_both}
use Rattle.setl_top_images.proofs.laws.one_code.Goals as goal

pub returns : goal.returns
returns c = record {
  image = one_image c.images_are_exact.ensures.exact.1;
  flaw = one_flaw;
  not_both = not_both c.images_are_exact.ensures.exact.1;
}
