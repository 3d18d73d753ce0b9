use Rattle.setl_model.proofs.Rows.{empty, growing, copied, several}
use Rattle.setl_model.proofs.worked_programs.Goals as goal

pub returns-clause-empty : goal.returns-clause-empty
returns-clause-empty c = empty

pub returns-clause-growing_set : goal.returns-clause-growing_set
returns-clause-growing_set c = growing

pub returns-clause-copied_set : goal.returns-clause-copied_set
returns-clause-copied_set c = copied

pub returns-clause-several_lines : goal.returns-clause-several_lines
returns-clause-several_lines c = several
