use Rattle.setl_advise_names.proofs.Tokens.{one_more}
use Rattle.setl_advise_names.proofs.spelled.spelled_names.Goals as goal

pub loop-i-preserved : goal.loop-i-preserved
loop-i-preserved c = one_more c.args.list.now.source c.args.list.now.tokens c.loop-i.i c.at.result.now c.text.result.now c.loop-i.names c.note.new.names _ c.at.ensures.value c.text.ensures c.in_ok-note.ensures c.loop-i.invariant
