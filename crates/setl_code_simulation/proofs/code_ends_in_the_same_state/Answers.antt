use Rattle.setl_code_simulation.proofs.Reached.{ends_in_the_same_state}
use Rattle.setl_code_simulation.proofs.code_ends_in_the_same_state.Goals as goal

pub returns : goal.returns
returns c = record { last = ends_in_the_same_state }
