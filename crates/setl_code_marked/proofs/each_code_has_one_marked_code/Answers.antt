use Rattle.setl_code_marked.proofs.There.{marked_is_there}
use Rattle.setl_code_marked.proofs.Soundness.{marked_is_one}
use Rattle.setl_code_marked.proofs.each_code_has_one_marked_code.Goals as goal

pub returns-clause-there : goal.returns-clause-there
returns-clause-there c = marked_is_there

pub returns-clause-one : goal.returns-clause-one
returns-clause-one c = marked_is_one
