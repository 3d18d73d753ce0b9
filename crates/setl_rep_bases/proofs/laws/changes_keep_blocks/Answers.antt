use Rattle.setl_rep_bases.proofs.Blocks.{entered_keeps, entering_keeps, cuts_keep, instances_keep, removals_keep}
use Rattle.setl_rep_bases.proofs.laws.changes_keep_blocks.Goals as goal

pub returns-clause-entered : goal.returns-clause-entered
returns-clause-entered c = entering_keeps

pub returns-clause-cut : goal.returns-clause-cut
returns-clause-cut c = cuts_keep

pub returns-clause-instances : goal.returns-clause-instances
returns-clause-instances c = instances_keep

pub returns-clause-removed : goal.returns-clause-removed
returns-clause-removed c = removals_keep

pub returns-clause-members : goal.returns-clause-members
returns-clause-members c = entered_keeps
