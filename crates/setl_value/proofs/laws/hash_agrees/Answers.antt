use Rattle.setl_value.specs.OrderLaws.{same_if_eq}
use Rattle.std.proofs.Common.{ap}
use Rattle.setl_value.specs.code.DatumOf.{datum}
use Rattle.setl_value.specs.code.HashInput.{writes}
use Rattle.setl_value.proofs.laws.hash_agrees.Goals as goal

pub returns : goal.returns
returns c = λ v w e. ap writes (same_if_eq (datum v) (datum w) e)
