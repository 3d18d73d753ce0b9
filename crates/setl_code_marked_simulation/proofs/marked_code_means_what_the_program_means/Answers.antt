use Rattle.setl_code_marked_simulation.proofs.Joining.{ends_alike, means_alike}
use Rattle.setl_code_marked_simulation.proofs.marked_code_means_what_the_program_means.Goals as goal

pub returns-clause-ends : goal.returns-clause-ends
returns-clause-ends c = ends_alike c.code_means_what_the_program_means.ensures.ends c.marked_code_means_the_same.ensures.runs

pub returns-clause-means : goal.returns-clause-means
returns-clause-means c = means_alike c.code_means_what_the_program_means.ensures.means c.marked_code_means_the_same.ensures.means
