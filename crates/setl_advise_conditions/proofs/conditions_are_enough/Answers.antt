use Rattle.setl_advise_conditions.proofs.Enough.{met_is_solved}
use Rattle.setl_advise_conditions.proofs.conditions_are_enough.Goals as goal

pub returns : goal.returns
returns c = met_is_solved
