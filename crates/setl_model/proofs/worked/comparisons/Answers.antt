use Rattle.setl_model.proofs.tables.Comparisons.{equality_rows_hold, order_rows_hold, membership_rows_hold, kind_rows_hold, canonical_rows_hold}
use Rattle.setl_model.proofs.worked.comparisons.Goals as goal

pub returns-clause-equality_rows : goal.returns-clause-equality_rows
returns-clause-equality_rows c = equality_rows_hold

pub returns-clause-order_rows : goal.returns-clause-order_rows
returns-clause-order_rows c = order_rows_hold

pub returns-clause-membership_rows : goal.returns-clause-membership_rows
returns-clause-membership_rows c = membership_rows_hold

pub returns-clause-kind_rows : goal.returns-clause-kind_rows
returns-clause-kind_rows c = kind_rows_hold

pub returns-clause-canonical_rows : goal.returns-clause-canonical_rows
returns-clause-canonical_rows c = canonical_rows_hold
