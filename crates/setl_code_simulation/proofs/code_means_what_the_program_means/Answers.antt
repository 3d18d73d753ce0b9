use Rattle.setl_code_simulation.proofs.Meaning.{code_ends_alike, code_means_alike}
use Rattle.setl_code_simulation.proofs.code_means_what_the_program_means.Goals as goal

pub returns-clause-ends : goal.returns-clause-ends
returns-clause-ends c = code_ends_alike

pub returns-clause-means : goal.returns-clause-means
returns-clause-means c = code_means_alike
