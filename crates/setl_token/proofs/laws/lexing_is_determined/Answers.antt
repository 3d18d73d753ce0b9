use Rattle.setl_token.proofs.Reached.{one_spelling, one_fault, spelled_or_fails, spelled_or_fault}
use Rattle.setl_token.proofs.laws.lexing_is_determined.Goals as goal

pub returns-clause-one_spelling : goal.returns-clause-one_spelling
returns-clause-one_spelling c = one_spelling

pub returns-clause-not_both : goal.returns-clause-not_both
returns-clause-not_both c = spelled_or_fails

pub returns-clause-one_fault : goal.returns-clause-one_fault
returns-clause-one_fault c = one_fault

pub returns-clause-either : goal.returns-clause-either
returns-clause-either c = spelled_or_fault
