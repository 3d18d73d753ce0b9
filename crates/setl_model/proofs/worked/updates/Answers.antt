use Rattle.setl_model.proofs.tables.Updates.{update_rows_hold, nested_rows_hold, taking_rows_hold, parting_rows_hold}
use Rattle.setl_model.proofs.worked.updates.Goals as goal

pub returns-clause-update_rows : goal.returns-clause-update_rows
returns-clause-update_rows c = update_rows_hold

pub returns-clause-nested_rows : goal.returns-clause-nested_rows
returns-clause-nested_rows c = nested_rows_hold

pub returns-clause-taking_rows : goal.returns-clause-taking_rows
returns-clause-taking_rows c = taking_rows_hold

pub returns-clause-parting_rows : goal.returns-clause-parting_rows
returns-clause-parting_rows c = parting_rows_hold
