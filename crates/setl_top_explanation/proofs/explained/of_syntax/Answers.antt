use Rattle.std.proofs.lemmas.Result.{IfOk-weaker}
use Rattle.setl_top_explanation.proofs.explained.of_syntax.Goals as goal

pub returns : goal.returns
returns c =
    IfOk-weaker c.of_syntax_at.result _ _ (λ t h. (c.args.list.now.tokens, c.requires, rw c.place_within.ensures.value at h)) c.of_syntax_at.ensures
