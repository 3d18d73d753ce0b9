use Rattle.setl_model_turns.proofs.Laws.{keeps, goes_on, only_cut}
use Rattle.setl_model_turns.proofs.more_turns_go_on.Goals as goal

pub returns-clause-keeps : goal.returns-clause-keeps
returns-clause-keeps c = keeps

pub returns-clause-goes_on : goal.returns-clause-goes_on
returns-clause-goes_on c = goes_on

pub returns-clause-front : goal.returns-clause-front
returns-clause-front c = only_cut c.output_grows.ensures.reached
