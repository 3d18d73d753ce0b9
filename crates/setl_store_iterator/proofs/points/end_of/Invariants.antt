use Rattle.std.proofs.Common.{◌≡◌, ◌+◌, ◌-◌, length, drop}
use Rattle.std.specs.List.{prefix_len}
use Rattle.setl_value.specs.code.Body.{Members}
use Rattle.setl_value.specs.code.DatumOf.{datum}
use Rattle.setl_map.specs.code.Points.{is_at}
use Rattle.setl_store_iterator.specs.Rests.{Stands}
use Rattle.setl_store_iterator.proofs.points.end_of.Given as goal

abbrev pub invariant-loop-end : goal.invariant-loop-end
invariant-loop-end l =
    (l.end.index + prefix_len (is_at (datum l.x)) (drop l.end.index (Members l.f)) ≡ l.fn.from.index + prefix_len (is_at (datum l.x)) (drop l.fn.from.index (Members l.f))) × Stands l.f l.end

abbrev pub decreases-loop-end : goal.decreases-loop-end
decreases-loop-end l = length (Members l.f) - l.end.index
