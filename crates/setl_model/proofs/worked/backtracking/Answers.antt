use Rattle.setl_model.proofs.tables.Backtracking.{back_rows_hold, back_input_rows_hold}
use Rattle.setl_model.proofs.worked.backtracking.Goals as goal

pub returns-clause-back_rows : goal.returns-clause-back_rows
returns-clause-back_rows c = back_rows_hold

pub returns-clause-back_input_rows : goal.returns-clause-back_input_rows
returns-clause-back_input_rows c = back_input_rows_hold
