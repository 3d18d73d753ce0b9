use Rattle.setl_model.proofs.Laws.{one_step, one_meaning}
use Rattle.setl_model.proofs.one_meaning.Goals as goal

pub returns-clause-one_meaning : goal.returns-clause-one_meaning
returns-clause-one_meaning c = one_meaning

pub returns-clause-one_step : goal.returns-clause-one_step
returns-clause-one_step c = one_step
