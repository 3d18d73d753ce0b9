use Rattle.setl_model.proofs.tables.Declarations.{mode_rows_hold, whole_value_rows_hold, every_store_rows_hold}
use Rattle.setl_model.proofs.worked.declarations.Goals as goal

pub returns-clause-mode_rows : goal.returns-clause-mode_rows
returns-clause-mode_rows c = mode_rows_hold

pub returns-clause-whole_value_rows : goal.returns-clause-whole_value_rows
returns-clause-whole_value_rows c = whole_value_rows_hold

pub returns-clause-every_store_rows : goal.returns-clause-every_store_rows
returns-clause-every_store_rows c = every_store_rows_hold
