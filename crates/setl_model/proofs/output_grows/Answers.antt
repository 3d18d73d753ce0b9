use Rattle.setl_model.proofs.Laws.{steps_grow, reached_is_front, print_in_hand}
use Rattle.setl_model.proofs.output_grows.Goals as goal

pub returns-clause-reached : goal.returns-clause-reached
returns-clause-reached c = reached_is_front

pub returns-clause-print_in_hand : goal.returns-clause-print_in_hand
returns-clause-print_in_hand c = print_in_hand

pub returns-clause-steps : goal.returns-clause-steps
returns-clause-steps c = steps_grow
