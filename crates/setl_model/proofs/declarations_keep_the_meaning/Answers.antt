use Rattle.setl_model.proofs.Laws.{declarations_only_cut, declarations_change_nothing}
use Rattle.setl_model.proofs.declarations_keep_the_meaning.Goals as goal

pub returns-clause-front : goal.returns-clause-front
returns-clause-front c = declarations_only_cut

pub returns-clause-same : goal.returns-clause-same
returns-clause-same c = declarations_change_nothing
