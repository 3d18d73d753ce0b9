use Rattle.setl_code_layout.proofs.Ends.{code_ends, marked_code_ends}
use Rattle.setl_code_layout.proofs.code_lays_out_what_is_meant.Goals as goal

pub returns-clause-plain : goal.returns-clause-plain
returns-clause-plain c = code_ends c.same_states_lay_out_alike.ensures.plain c.code_means_what_the_program_means.ensures.means c.code_ends_in_the_same_state.ensures.last

pub returns-clause-marked : goal.returns-clause-marked
returns-clause-marked c = marked_code_ends c.same_states_lay_out_alike.ensures.marked c.marked_code_means_what_the_program_means.ensures.means c.marked_code_reaches_the_same_states.ensures.last
