use Rattle.setl_debug_screen.proofs.Meant.{nothing_taken, body_in_hand, shows}
use Rattle.setl_debug_screen.proofs.laws.slots_show_the_state.Goals as goal

pub returns-clause-there : goal.returns-clause-there
returns-clause-there c = nothing_taken

pub returns-clause-body : goal.returns-clause-body
returns-clause-body c = body_in_hand

pub returns-clause-shown : goal.returns-clause-shown
returns-clause-shown c = shows
