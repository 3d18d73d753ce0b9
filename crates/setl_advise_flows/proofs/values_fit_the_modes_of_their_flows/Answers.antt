use Rattle.setl_advise_flows.proofs.Fitting.{advised_takes}
use Rattle.setl_advise_flows.proofs.values_fit_the_modes_of_their_flows.Goals as goal

pub returns : goal.returns
returns c = advised_takes
