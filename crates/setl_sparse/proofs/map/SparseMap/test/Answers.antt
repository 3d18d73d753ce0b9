use Rattle.std.proofs.Common.{◌∙◌, sym, ap, is_some}
use Rattle.setl_sparse.specs.Entries.{content_at}
use Rattle.setl_sparse.proofs.Tables.{is_some-content}
use Rattle.setl_sparse.proofs.map.SparseMap.test.Goals as goal

pub returns : goal.returns
returns g c =
    c.contains.ensures
    ∙ sym (is_some-content c.self.inside.numbers.keys c.self.inside.contents.items c.args.block c.self.invariant.0)
    ∙ ap (λ m. is_some (content_at m c.args.block)) c.self.view_is
