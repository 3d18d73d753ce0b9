use Rattle.setl_set.proofs.SubsetLaws as proved
use Rattle.setl_set.proofs.laws.powers_have_all_subsets.Goals as goal

pub returns : goal.returns
returns c = record { pow = proved.has_all_subsets; npow = proved.has_all_subsets_of_size }
