use Rattle.setl_model.proofs.LanguageRows.{passed_in_and_out_row, fail_alone_row, taken_back_row, queens_row}
use Rattle.setl_model.proofs.worked_procedures.Goals as goal

pub returns-clause-passed_in_and_out : goal.returns-clause-passed_in_and_out
returns-clause-passed_in_and_out c = passed_in_and_out_row

pub returns-clause-fail_alone : goal.returns-clause-fail_alone
returns-clause-fail_alone c = fail_alone_row

pub returns-clause-taken_back : goal.returns-clause-taken_back
returns-clause-taken_back c = taken_back_row

pub returns-clause-queens : goal.returns-clause-queens
returns-clause-queens c = queens_row
