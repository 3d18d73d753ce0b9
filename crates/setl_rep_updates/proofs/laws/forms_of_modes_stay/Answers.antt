use Rattle.setl_rep_updates.proofs.Staying.{forms_of_modes_stay}
use Rattle.setl_rep_updates.proofs.laws.forms_of_modes_stay.Goals as goal

pub returns : goal.returns
returns c = forms_of_modes_stay c.forms_stay.ensures.kept c.bases_are_lengthened.ensures.names c.places_are_members.ensures.kept
