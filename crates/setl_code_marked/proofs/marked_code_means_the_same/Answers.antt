use Rattle.setl_code_marked.proofs.Running.{marked_runs_alike, marked_means_alike}
use Rattle.setl_code_marked.proofs.marked_code_means_the_same.Goals as goal

pub returns-clause-runs : goal.returns-clause-runs
returns-clause-runs c = marked_runs_alike

pub returns-clause-means : goal.returns-clause-means
returns-clause-means c = marked_means_alike
