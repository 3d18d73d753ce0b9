use Rattle.setl_set.proofs.SetLaws as proved
use Rattle.setl_set.proofs.laws.rising_lists_agree.Goals as goal

pub returns : goal.returns
returns c = proved.rising_lists_agree
