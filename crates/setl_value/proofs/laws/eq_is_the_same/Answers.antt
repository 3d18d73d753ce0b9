use Rattle.setl_value.specs.OrderLaws.{eq_iff_same}
use Rattle.setl_value.specs.code.DatumOf.{datum}
use Rattle.setl_value.proofs.laws.eq_is_the_same.Goals as goal

pub returns : goal.returns
returns c = λ v w. eq_iff_same (datum v) (datum w)
