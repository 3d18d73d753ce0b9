use Rattle.std.proofs.Common.{◌∙◌}
use Rattle.std.proofs.lemmas.Result.{IfOk-weaker}
use Rattle.setl_sparse.proofs.Members.{same_members}
use Rattle.setl_sparse.proofs.set.SparseSet.numbers.Goals as goal

pub returns-clause-members : goal.returns-clause-members
returns-clause-members c = IfOk-weaker c.rising.result _ _ (λ numbers moved. same_members c.self.inside.numbers.keys numbers.items moved ∙ c.self.view_is) c.rising.ensures.members
