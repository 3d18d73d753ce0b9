use Rattle.setl_value.specs.OrderLaws.{datum_cmp_total}
use Rattle.setl_value.proofs.laws.order_is_total.Goals as goal

pub returns : goal.returns
returns c = datum_cmp_total
