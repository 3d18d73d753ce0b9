use Rattle.std.proofs.Common.{◌∙◌, ap}
use Rattle.std.specs.FinSet as set
use Rattle.setl_sparse.proofs.Members.{removed}
use Rattle.setl_sparse.proofs.set.SparseSet.cut.Goals as goal

pub returns-clause-ok : goal.returns-clause-ok
returns-clause-ok c = removed c.args.block c.self.inside.numbers.keys _ c.swap_remove.ensures.updates.0 ∙ ap (λ s. set.remove s c.args.block) c.self.view_is
