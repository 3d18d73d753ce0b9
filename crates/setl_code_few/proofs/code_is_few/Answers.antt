use Rattle.setl_code_few.proofs.Whole.{code_is_few}
use Rattle.setl_code_few.proofs.Marking.{marked_is_few}
use Rattle.setl_code_few.proofs.code_is_few.Goals as goal

pub returns-clause-few : goal.returns-clause-few
returns-clause-few c = code_is_few

pub returns-clause-marked : goal.returns-clause-marked
returns-clause-marked c = marked_is_few
