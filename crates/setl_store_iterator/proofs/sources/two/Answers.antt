use Rattle.setl_store_iterator.proofs.Operands.{not_two}
use Rattle.setl_store_iterator.proofs.sources.two.Goals as goal

pub returns-then-sources-ne2 : goal.returns-then-sources-ne2
returns-then-sources-ne2 c = not_two c.args.sources.now c.unfit.result c.unfit.ensures c.if-sources-ne2.true
