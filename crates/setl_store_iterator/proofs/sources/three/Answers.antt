use Rattle.setl_store_iterator.proofs.Operands.{not_three}
use Rattle.setl_store_iterator.proofs.sources.three.Goals as goal

pub returns-then-sources-ne3 : goal.returns-then-sources-ne3
returns-then-sources-ne3 c = not_three c.args.sources.now c.unfit.result c.unfit.ensures c.if-sources-ne3.true
