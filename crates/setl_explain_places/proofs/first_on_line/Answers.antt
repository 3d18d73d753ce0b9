use Rattle.std.proofs.Common.{◌∙◌, sym}
use Rattle.setl_explain_places.proofs.Firsts.{first_later}
use Rattle.setl_explain_places.proofs.first_on_line.Goals as goal

pub loop-i-preserved : goal.loop-i-preserved
loop-i-preserved c = sym (first_later c.args.list.now.tokens c.loop-i.i c.at-token.result.now c.args.line _ c.at-token.ensures.value c.if-token-line.false) ∙ c.loop-i.invariant
