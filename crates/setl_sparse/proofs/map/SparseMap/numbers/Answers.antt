use Rattle.std.proofs.Common.{◌∙◌, sym, ap, nat_eq, is_some}
use Rattle.std.proofs.lemmas.List.Sorted.{list_any-IsPermutation}
use Rattle.setl_sparse.specs.Entries.{content_at}
use Rattle.std.proofs.lemmas.Result.{IfOk-weaker}
use Rattle.setl_sparse.proofs.Tables.{is_some-content}
use Rattle.setl_sparse.proofs.map.SparseMap.numbers.Goals as goal

pub returns-clause-members : goal.returns-clause-members
returns-clause-members g c =
    IfOk-weaker c.rising.result _ _ (λ numbers moved n.
    sym (list_any-IsPermutation (nat_eq n) c.self.inside.numbers.keys numbers.items moved)
    ∙ sym (is_some-content c.self.inside.numbers.keys c.self.inside.contents.items n c.self.invariant.0)
    ∙ ap (λ m. is_some (content_at m n)) c.self.view_is) c.rising.ensures.members
