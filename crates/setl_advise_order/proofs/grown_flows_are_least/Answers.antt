use Rattle.setl_advise_order.proofs.Grows.{grown_is_least}
use Rattle.setl_advise_order.proofs.grown_flows_are_least.Goals as goal

pub returns : goal.returns
returns c = grown_is_least
