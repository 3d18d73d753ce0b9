use Rattle.std.proofs.lemmas.Result.{IfOk-weaker}
use Rattle.setl_top_explanation.proofs.explained.of_nesting.Goals as goal

pub returns : goal.returns
returns c = IfOk-weaker c.nesting_text.result _ _ (λ t is. (c.args.list.now.tokens, c.requires, is)) c.nesting_text.ensures
