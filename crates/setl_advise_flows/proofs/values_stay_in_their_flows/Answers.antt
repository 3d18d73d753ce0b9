use Rattle.setl_advise_flows.proofs.Claimed as claimed
use Rattle.setl_advise_flows.proofs.values_stay_in_their_flows.Goals as goal

pub returns-clause-reached : goal.returns-clause-reached
returns-clause-reached c = claimed.reached_in_flows

pub returns-clause-fits : goal.returns-clause-fits
returns-clause-fits c = claimed.advice_fits
