use Rattle.std.proofs.lemmas.Result.{IfOk-weaker}
use Rattle.setl_top_explanation.proofs.explained.of_syntax_at.Goals as goal

pub returns : goal.returns
returns c =
    IfOk-weaker c.syntax_text.result _ _ (λ t is. record { kinds = c.in_ok-kinds.kinds.items; told = rw c.source-source.ensures.value at c.in_ok-kinds.ensures; text_is = rw c.deref.ensures.value at is }) c.syntax_text.ensures
