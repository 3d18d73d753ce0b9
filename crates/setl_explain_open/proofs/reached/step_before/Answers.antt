use Rattle.std.proofs.lemmas.Result.{IfOk-weaker}
use Rattle.setl_explain_open.proofs.Behind.{skips, reads}
use Rattle.setl_explain_open.proofs.reached.step_before.Goals as goal

pub returns-then-token-at : goal.returns-then-token-at
returns-then-token-at c = skips c.args.list.now c.args.at c.args.i _ c.at-token.result.now c.at-token.ensures.value c.if-token-at.true

pub returns : goal.returns
returns c =
    IfOk-weaker c.step.result _ _ (λ now is. reads c.args.list.now c.args.at c.args.i _ _ c.at-token.result.now c.kind_behind.result c.at-token.ensures.value c.if-token-at.false (rw c.requires.whole at c.kind_behind.ensures) is) c.step.ensures
