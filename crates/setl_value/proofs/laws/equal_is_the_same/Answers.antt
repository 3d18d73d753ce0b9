use Rattle.setl_value.specs.OrderLaws.{equal_iff_same}
use Rattle.setl_value.proofs.laws.equal_is_the_same.Goals as goal

pub returns : goal.returns
returns c = equal_iff_same
