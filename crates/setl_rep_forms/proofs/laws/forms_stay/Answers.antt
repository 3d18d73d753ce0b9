use Rattle.setl_rep_forms.proofs.Staying.{forms_stay, forms_stay_as_bases_grow, forms_stay_in_front_of_cuts}
use Rattle.setl_rep_forms.proofs.laws.forms_stay.Goals as goal

pub returns-clause-kept : goal.returns-clause-kept
returns-clause-kept c = forms_stay

pub returns-clause-grown : goal.returns-clause-grown
returns-clause-grown c = forms_stay_as_bases_grow c.changes_keep_blocks.ensures.entered

pub returns-clause-cut : goal.returns-clause-cut
returns-clause-cut c = forms_stay_in_front_of_cuts c.changes_keep_blocks.ensures.cut
