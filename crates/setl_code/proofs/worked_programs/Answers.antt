use Rattle.setl_code.proofs.Listed.{all_listed, all_run, all_meant}
use Rattle.setl_code.proofs.worked_programs.Goals as goal

pub returns-clause-listings : goal.returns-clause-listings
returns-clause-listings c = all_listed

pub returns-clause-runs : goal.returns-clause-runs
returns-clause-runs c = all_run

pub returns-clause-meanings : goal.returns-clause-meanings
returns-clause-meanings c = all_meant
