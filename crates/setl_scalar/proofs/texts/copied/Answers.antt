use Rattle.setl_scalar.proofs.Copies.{copies_of_none}
use Rattle.setl_scalar.proofs.texts.copied.Goals as goal

pub returns-then-is_empty : goal.returns-then-is_empty
returns-then-is_empty c = copies_of_none c.args.n c.args.bytes.now c.new.result.items c.if-is_empty.ensures c.new.ensures.items
