use Rattle.setl_program_laws.proofs.Whole.{accepted_is_formed, accepted_is_placed, accepted_is_updating}
use Rattle.setl_program_laws.proofs.accepted_is_formed.Goals as goal

pub returns-clause-formed : goal.returns-clause-formed
returns-clause-formed c = accepted_is_formed

pub returns-clause-placed : goal.returns-clause-placed
returns-clause-placed c = accepted_is_placed

pub returns-clause-updating : goal.returns-clause-updating
returns-clause-updating c = accepted_is_updating
