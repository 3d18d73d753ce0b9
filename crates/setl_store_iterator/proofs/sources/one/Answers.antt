use Rattle.setl_store_iterator.proofs.Operands.{not_one}
use Rattle.setl_store_iterator.proofs.sources.one.Goals as goal

pub returns-then-sources-ne1 : goal.returns-then-sources-ne1
returns-then-sources-ne1 c = not_one c.args.sources.now c.unfit.result c.unfit.ensures c.if-sources-ne1.true
