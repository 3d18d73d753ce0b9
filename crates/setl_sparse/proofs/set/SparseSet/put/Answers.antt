use Rattle.std.proofs.Common.{◌∙◌, ap}
use Rattle.std.specs.FinSet as set
use Rattle.setl_sparse.proofs.Members.{inserted}
use Rattle.setl_sparse.proofs.set.SparseSet.put.Goals as goal

pub returns-clause-ok : goal.returns-clause-ok
returns-clause-ok c = inserted c.args.block c.self.inside.numbers.keys _ c.in_ok-insert.ensures.updates.0 ∙ ap (λ s. set.insert s c.args.block) c.self.view_is
