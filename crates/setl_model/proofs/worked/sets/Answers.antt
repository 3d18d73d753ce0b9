use Rattle.setl_model.proofs.tables.Sets.{set_rows_hold, enumeration_rows_hold, subset_rows_hold, depth_rows_hold}
use Rattle.setl_model.proofs.worked.sets.Goals as goal

pub returns-clause-set_rows : goal.returns-clause-set_rows
returns-clause-set_rows c = set_rows_hold

pub returns-clause-enumeration_rows : goal.returns-clause-enumeration_rows
returns-clause-enumeration_rows c = enumeration_rows_hold

pub returns-clause-subset_rows : goal.returns-clause-subset_rows
returns-clause-subset_rows c = subset_rows_hold

pub returns-clause-depth_rows : goal.returns-clause-depth_rows
returns-clause-depth_rows c = depth_rows_hold
