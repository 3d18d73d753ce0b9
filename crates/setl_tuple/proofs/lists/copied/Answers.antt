use Rattle.setl_tuple.proofs.Puts.{copies_of_none}
use Rattle.setl_tuple.proofs.lists.copied.Goals as goal

pub returns-then-len-eq0 : goal.returns-then-len-eq0
returns-then-len-eq0 c = copies_of_none c.args.n c.args.a.now c.new.result.items c.len.result c.len.ensures c.if-len-eq0.true c.new.ensures.items
