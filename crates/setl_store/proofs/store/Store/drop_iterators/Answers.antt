use Rattle.std.proofs.Common.{drop, subst}
use Rattle.setl_store.specs.Operands.{DropsIterators}
use Rattle.setl_store.proofs.Dropping.{enough_off}
use Rattle.setl_store.proofs.store.Store.drop_iterators.Goals as goal

pub drop_top_ones-requires : goal.drop_top_ones-requires
drop_top_ones-requires c =
    let ops = c.args.self.now.core.now.operands in
    enough_off c.args.count ops (drop c.args.count ops) (subst (λ b. DropsIterators c.args.count ops b (drop c.args.count ops)) c.if-not-has_iterators.false c.has_iterators.ensures)
