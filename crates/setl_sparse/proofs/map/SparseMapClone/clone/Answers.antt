use Rattle.std.proofs.Common.{subst}
use Rattle.std.specs.List.{zip}
use Rattle.setl_sparse.specs.Entries.{AreCopies}
use Rattle.setl_sparse.proofs.Reading.{copied}
use Rattle.setl_sparse.proofs.map.SparseMapClone.clone.Goals as goal

pub returns : goal.returns
returns g c = record {
  cases = subst (λ m. AreCopies g.T.Clone.is_clone m (zip c.in_ok-clone.field-0.keys c.in_ok-clone-2.field-0.items)) c.self.view_is
      (copied g.T.Clone.is_clone c.self.inside.numbers.keys c.in_ok-clone.field-0.keys c.self.inside.contents.items c.in_ok-clone-2.field-0.items c.in_ok-clone.ensures.cases c.in_ok-clone-2.ensures.cases.0);
}
