use Rattle.std.proofs.Common.{ap, sym, ◌∙◌}
use Rattle.setl_value.specs.code.Body.{Members}
use Rattle.setl_value.specs.code.DatumOf.{datum}
use Rattle.setl_model.specs.Iterations.{Starts, place_points, points_of}
use Rattle.setl_store_iterator.specs.Points.{points}
use Rattle.setl_store_iterator.proofs.Wholes.{map_points_of, no_points_of, tuple_points}
use Rattle.setl_store_iterator.proofs.starts.over_points.Goals as goal

pub returns-in_ok-over-in-Set : goal.returns-in_ok-over-in-Set
returns-in_ok-over-in-Set c = (
  ap (λ v. points_of (datum v)) c.in-Set.is ∙ map_points_of (Members c.in-Set.s) (sym c.is_map.ensures ∙ c.if-is_map.true)
      ∙ ap (λ b. Starts (points (Members b))) (sym c.in_ok-copy-in-Set.ensures.same) ∙ ap (λ s. Starts s.left) (sym c.in_ok-over-in-Set.ensures),
  ap (λ s. s.pairs) c.in_ok-over-in-Set.ensures,
)

pub returns-else-is_map : goal.returns-else-is_map
returns-else-is_map c = ap (λ v. points_of (datum v)) c.in-Set.is ∙ no_points_of (Members c.in-Set.s) (sym c.is_map.ensures ∙ c.if-is_map.false)

pub returns-in_ok-over-in-Tuple : goal.returns-in_ok-over-in-Tuple
returns-in_ok-over-in-Tuple c = (
  ap (λ v. points_of (datum v)) c.in-Tuple.is ∙ tuple_points c.in-Tuple.t
      ∙ ap (λ t. Starts (place_points 1 t)) (sym c.in_ok-copy-in-Tuple.ensures.same) ∙ ap (λ s. Starts s.left) (sym c.in_ok-over-in-Tuple.ensures),
  ap (λ s. s.pairs) c.in_ok-over-in-Tuple.ensures,
)
