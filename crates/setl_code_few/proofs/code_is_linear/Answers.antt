use Rattle.setl_code_few.proofs.Whole.{code_is_linear}
use Rattle.setl_code_few.proofs.Marking.{marked_is_linear}
use Rattle.setl_code_few.proofs.code_is_linear.Goals as goal

pub returns-clause-linear : goal.returns-clause-linear
returns-clause-linear c = code_is_linear

pub returns-clause-marked : goal.returns-clause-marked
returns-clause-marked c = marked_is_linear
