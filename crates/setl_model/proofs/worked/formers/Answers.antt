use Rattle.setl_model.proofs.tables.Formers.{former_rows_hold, own_name_rows_hold, selection_rows_hold, former_stops_hold}
use Rattle.setl_model.proofs.worked.formers.Goals as goal

pub returns-clause-former_rows : goal.returns-clause-former_rows
returns-clause-former_rows c = former_rows_hold

pub returns-clause-own_name_rows : goal.returns-clause-own_name_rows
returns-clause-own_name_rows c = own_name_rows_hold

pub returns-clause-selection_rows : goal.returns-clause-selection_rows
returns-clause-selection_rows c = selection_rows_hold

pub returns-clause-former_stops : goal.returns-clause-former_stops
returns-clause-former_stops c = former_stops_hold
