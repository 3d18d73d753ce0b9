use Rattle.setl_advise_conditions.proofs.Needed.{solved_is_met}
use Rattle.setl_advise_conditions.proofs.conditions_are_needed.Goals as goal

pub returns : goal.returns
returns c = solved_is_met
