use Rattle.std.proofs.lemmas.Result.{IfOk-weaker}
use Rattle.setl_top_explanation.proofs.explained.of_rule.Goals as goal

pub returns : goal.returns
returns c = IfOk-weaker c.rule_broken.result _ _ (λ t is. (c.args.list.now.tokens, c.requires, is)) c.rule_broken.ensures
