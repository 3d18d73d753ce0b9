use Rattle.setl_model.proofs.LanguageRows.{declared_set_row, undeclared_set_row, declared_map_row, undeclared_own_row}
use Rattle.setl_model.proofs.worked_declarations.Goals as goal

pub returns-clause-declared_set : goal.returns-clause-declared_set
returns-clause-declared_set c = declared_set_row

pub returns-clause-undeclared_set : goal.returns-clause-undeclared_set
returns-clause-undeclared_set c = undeclared_set_row

pub returns-clause-declared_map : goal.returns-clause-declared_map
returns-clause-declared_map c = declared_map_row

pub returns-clause-undeclared_own : goal.returns-clause-undeclared_own
returns-clause-undeclared_own c = undeclared_own_row
