use Rattle.setl_code_layout.proofs.Same.{states_alike, marked_states_alike}
use Rattle.setl_code_layout.proofs.same_states_lay_out_alike.Goals as goal

pub returns-clause-plain : goal.returns-clause-plain
returns-clause-plain c = states_alike

pub returns-clause-marked : goal.returns-clause-marked
returns-clause-marked c = marked_states_alike
