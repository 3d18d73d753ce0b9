use Rattle.setl_set.proofs.SetLaws as proved
use Rattle.setl_set.proofs.laws.tests_are_exact.Goals as goal

pub returns : goal.returns
returns c = record { membership = proved.tests_membership; subset = proved.tests_subset }
