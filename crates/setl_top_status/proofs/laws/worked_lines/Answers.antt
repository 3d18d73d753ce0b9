use Rattle.setl_top_status.proofs.Rows.{wide_line, unfit_line, nothing_line}
use Rattle.setl_top_status.proofs.laws.worked_lines.Goals as goal

pub returns-clause-wide : goal.returns-clause-wide
returns-clause-wide c = wide_line

pub returns-clause-unfit : goal.returns-clause-unfit
returns-clause-unfit c = unfit_line

pub returns-clause-nothing : goal.returns-clause-nothing
returns-clause-nothing c = nothing_line
