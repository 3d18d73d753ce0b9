use Rattle.std.proofs.Common.{◌∙◌, ◌++◌, ◌∷◌, [], ap}
use Rattle.setl_sparse.proofs.Tables.{content_pushed}
use Rattle.setl_sparse.proofs.map.push.Goals as goal

pub returns-clause-ok : goal.returns-clause-ok
returns-clause-ok g c =
    content_pushed c.args.numbers.now.keys c.args.contents.now.items c.args.block c.args.content _ _ c.requires.table.0 c.requires.absent c.in_ok-insert.ensures.keys
    (c.push_reserved.ensures.items ∙ ap (λ vs. vs ++ c.args.content ∷ []) c.reserve.ensures.items)
