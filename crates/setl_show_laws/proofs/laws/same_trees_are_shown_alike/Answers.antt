use Rattle.setl_show_laws.proofs.AlikePrograms.{same_text}
use Rattle.setl_show_laws.proofs.laws.same_trees_are_shown_alike.Goals as goal

pub returns : goal.returns
returns c = same_text
