use Rattle.setl_text.proofs.FirstFault as proved
use Rattle.setl_text.proofs.laws.form_stands_first.Goals as goal

pub returns : goal.returns
returns c = proved.form_stands_first
