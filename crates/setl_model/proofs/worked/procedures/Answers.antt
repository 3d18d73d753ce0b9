use Rattle.setl_model.proofs.tables.Procedures.{call_rows_hold, passing_rows_hold, own_variable_rows_hold}
use Rattle.setl_model.proofs.worked.procedures.Goals as goal

pub returns-clause-call_rows : goal.returns-clause-call_rows
returns-clause-call_rows c = call_rows_hold

pub returns-clause-passing_rows : goal.returns-clause-passing_rows
returns-clause-passing_rows c = passing_rows_hold

pub returns-clause-own_variable_rows : goal.returns-clause-own_variable_rows
returns-clause-own_variable_rows c = own_variable_rows_hold
