use Rattle.setl_model.proofs.tables.Folds.{fold_rows_hold, text_rows_hold}
use Rattle.setl_model.proofs.worked.folds.Goals as goal

pub returns-clause-fold_rows : goal.returns-clause-fold_rows
returns-clause-fold_rows c = fold_rows_hold

pub returns-clause-text_rows : goal.returns-clause-text_rows
returns-clause-text_rows c = text_rows_hold
