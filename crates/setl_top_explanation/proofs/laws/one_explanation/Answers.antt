use Rattle.setl_top_explanation.proofs.OneExplanation.{one_text}
use Rattle.setl_top_explanation.proofs.laws.one_explanation.Goals as goal

pub returns : goal.returns
returns c = one_text c.next_kinds_are_one_list.ensures c.tree_is_unique.ensures.unique c.lexing_is_determined.ensures.one_spelling
