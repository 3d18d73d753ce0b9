use Rattle.setl_rep_updates.proofs.Staying.{forms_of_main_stay}
use Rattle.setl_rep_updates.proofs.laws.forms_of_main_stay.Goals as goal

pub returns : goal.returns
returns c = forms_of_main_stay c.forms_stay.ensures.kept
