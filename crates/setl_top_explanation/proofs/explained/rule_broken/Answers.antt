use Rattle.std.proofs.lemmas.Result.{IfOk-weaker}
use Rattle.setl_top_explanation.proofs.explained.rule_broken.Goals as goal

pub returns : goal.returns
returns c =
    IfOk-weaker c.rule_explained.result _ _ (λ t is. record { tree = c.in_ok-tree.tree; derived = c.in_ok-tree.ensures; text_is = rw c.in_ok-name.ensures at is }) c.rule_explained.ensures
