use Rattle.setl_code_marked_simulation.proofs.Joining.{last_alike, reached_alike, reads_alike, prints_alike}
use Rattle.setl_code_marked_simulation.proofs.marked_code_reaches_the_same_states.Goals as goal

pub returns-clause-last : goal.returns-clause-last
returns-clause-last c = last_alike c.code_ends_in_the_same_state.ensures.last c.marked_code_means_the_same.ensures.runs

pub returns-clause-reached : goal.returns-clause-reached
returns-clause-reached c = reached_alike c.code_reaches_the_same_states.ensures.reached c.marked_code_means_the_same.ensures.runs

pub returns-clause-reads : goal.returns-clause-reads
returns-clause-reads c = reads_alike c.code_reaches_the_same_states.ensures.reads c.marked_code_means_the_same.ensures.runs

pub returns-clause-prints : goal.returns-clause-prints
returns-clause-prints c = prints_alike c.code_reaches_the_same_states.ensures.prints c.marked_code_means_the_same.ensures.runs
