use Rattle.setl_code_simulation.proofs.Reached.{reaches_the_same_states, reads_where_meant, prints_where_meant}
use Rattle.setl_code_simulation.proofs.code_reaches_the_same_states.Goals as goal

pub returns-clause-reached : goal.returns-clause-reached
returns-clause-reached c = reaches_the_same_states

pub returns-clause-reads : goal.returns-clause-reads
returns-clause-reads c = reads_where_meant

pub returns-clause-prints : goal.returns-clause-prints
returns-clause-prints c = prints_where_meant
