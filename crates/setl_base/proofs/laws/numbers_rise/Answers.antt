use Rattle.setl_base.proofs.OverTime.{numbers_rise}
use Rattle.setl_base.proofs.laws.numbers_rise.Goals as goal

pub returns : goal.returns
returns c = numbers_rise
