use Rattle.setl_model.proofs.tables.Sequences.{sequence_rows_hold, copy_rows_hold, component_rows_hold, slice_rows_hold}
use Rattle.setl_model.proofs.worked.sequences.Goals as goal

pub returns-clause-sequence_rows : goal.returns-clause-sequence_rows
returns-clause-sequence_rows c = sequence_rows_hold

pub returns-clause-copy_rows : goal.returns-clause-copy_rows
returns-clause-copy_rows c = copy_rows_hold

pub returns-clause-component_rows : goal.returns-clause-component_rows
returns-clause-component_rows c = component_rows_hold

pub returns-clause-slice_rows : goal.returns-clause-slice_rows
returns-clause-slice_rows c = slice_rows_hold
