use Rattle.setl_map.proofs.MapLaws.{images_by_pairs}
use Rattle.setl_map.proofs.laws.images_are_by_pairs.Goals as goal

pub returns : goal.returns
returns c = images_by_pairs c.tests_are_exact.ensures.membership
