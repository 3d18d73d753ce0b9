use Rattle.setl_map.proofs.Adding.{images_shallower}
use Rattle.setl_map.proofs.laws.images_are_shallower.Goals as goal

pub returns : goal.returns
returns c = images_shallower
