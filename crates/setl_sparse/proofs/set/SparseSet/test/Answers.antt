use Rattle.std.proofs.Common.{◌∙◌, sym, ap}
use Rattle.std.specs.FinSet as set
use Rattle.setl_sparse.proofs.Members.{member}
use Rattle.setl_sparse.proofs.set.SparseSet.test.Goals as goal

pub returns : goal.returns
returns c = c.contains.ensures ∙ sym (member c.self.inside.numbers.keys c.args.block) ∙ ap (λ s. set.contains s c.args.block) c.self.view_is
