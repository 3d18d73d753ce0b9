use Rattle.setl_model_runs.specs.VariableLaws.{value_stored}
use Rattle.setl_model.proofs.Laws.{elsewhere}
use Rattle.setl_model.proofs.stores_change_one_variable.Goals as goal

pub returns-clause-stored : goal.returns-clause-stored
returns-clause-stored c = value_stored

pub returns-clause-elsewhere : goal.returns-clause-elsewhere
returns-clause-elsewhere c = elsewhere
