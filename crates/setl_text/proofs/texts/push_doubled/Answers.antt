use Rattle.setl_text.proofs.TextLists.{doubled_next}
use Rattle.setl_text.proofs.texts.push_doubled.Goals as goal

pub loop-b-preserved : goal.loop-b-preserved
loop-b-preserved c = doubled_next c.args.bytes.now c.args.into.now.items c.loop-b.into.items c.push_byte.new.into.items c.loop-b.b-index c.loop-b-test.true c.loop-b.invariant c.in_ok-push_byte.ensures
