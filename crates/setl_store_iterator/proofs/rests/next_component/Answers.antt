use Rattle.std.proofs.Common.{◌∷◌, ◌+◌, ap, sym, ◌∙◌, drop, refl}
use Rattle.setl_value.specs.code.DatumOf.{lent}
use Rattle.setl_model.specs.Core.{One}
use Rattle.setl_model.specs.Iterations.{singles}
use Rattle.setl_store_iterator.proofs.Lists.{drop_at, component_at}
use Rattle.setl_store_iterator.proofs.rests.next_component.Goals as goal

pub returns-clause-first : goal.returns-clause-first
returns-clause-first c =
    let ps = c.args.t.now in
    let i = c.args.at.now in
    ap singles (drop_at ps i (i + 1) (lent c.at.result) refl (component_at ps i c.at.result c.requires c.at.ensures))
    ∙ ap (λ v. One v ∷ singles (drop (i + 1) ps)) (sym c.in_ok-component.ensures)
