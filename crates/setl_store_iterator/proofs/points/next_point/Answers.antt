use Rattle.std.proofs.Common.{◌∷◌, ap, sym, ◌∙◌, drop, Some}
use Rattle.setl_value.specs.code.Body.{Members}
use Rattle.setl_value.specs.code.DatumOf.{datum}
use Rattle.setl_model.specs.Core.{Two}
use Rattle.setl_store_iterator.specs.Points.{points}
use Rattle.setl_store_iterator.proofs.PointSteps.{step_at}
use Rattle.setl_store_iterator.proofs.points.next_point.Goals as goal

pub returns-clause-first : goal.returns-clause-first
returns-clause-first c =
    let f = Members c.args.f.now in
    let end = c.end_of-end.result.index in
    let x = datum c.parts.result.0.now in
    step_at f c.args.at.now.index end x (datum c.parts.result.1.now) c.learn.ensures c.requires.map c.parts.ensures c.end_of-end.ensures.end
    ∙ ap (λ i. i ∷ points (drop end f)) (sym (c.in_ok-item.ensures.point ∙ ap (Two (Some x)) c.only.ensures))
