use Rattle.std.proofs.Common.{◌∙◌, sym}
use Rattle.setl_explain_places.proofs.Firsts.{spelled_here, spelled_later}
use Rattle.setl_explain_places.proofs.spelled_from.Goals as goal

pub returns-then-is_spelled_from-clause-value : goal.returns-then-is_spelled_from-clause-value
returns-then-is_spelled_from-clause-value c =
    sym (spelled_here c.args.list.now.source c.args.text.now c.text.result.now c.args.list.now.tokens c.loop-i.i c.at-token.result.now c.args.line _ c.is_spelled_from.result c.at-token.ensures.value c.text.ensures c.is_spelled_from.ensures c.if-is_spelled_from.true)
    ∙ c.loop-i.invariant

pub loop-i-preserved : goal.loop-i-preserved
loop-i-preserved c =
    sym (spelled_later c.args.list.now.source c.args.text.now c.text.result.now c.args.list.now.tokens c.loop-i.i c.at-token.result.now c.args.line _ c.is_spelled_from.result c.at-token.ensures.value c.text.ensures c.is_spelled_from.ensures c.if-is_spelled_from.false)
    ∙ c.loop-i.invariant
