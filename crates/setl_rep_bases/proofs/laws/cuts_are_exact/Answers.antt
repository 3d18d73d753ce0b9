use Rattle.setl_rep_bases.proofs.Cutting.{marks_are_read, cuts_are_read, counted_cuts_are_read, nothing_is_cut, grown_alike, counted_cuts_leave_the_same, cut_blocks_were_there}
use Rattle.setl_rep_bases.proofs.laws.cuts_are_exact.Goals as goal

pub returns-clause-marks : goal.returns-clause-marks
returns-clause-marks c = marks_are_read

pub returns-clause-cuts : goal.returns-clause-cuts
returns-clause-cuts c = cuts_are_read

pub returns-clause-counted : goal.returns-clause-counted
returns-clause-counted c = counted_cuts_are_read

pub returns-clause-whole : goal.returns-clause-whole
returns-clause-whole c = nothing_is_cut

pub returns-clause-grown : goal.returns-clause-grown
returns-clause-grown c = grown_alike

pub returns-clause-same : goal.returns-clause-same
returns-clause-same c = counted_cuts_leave_the_same

pub returns-clause-before : goal.returns-clause-before
returns-clause-before c = cut_blocks_were_there
