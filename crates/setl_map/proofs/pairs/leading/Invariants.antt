use Rattle.std.proofs.Common.{◌≡◌, ◌≤◌, ◌+◌, drop, length}
use Rattle.std.specs.List.{prefix_len}
use Rattle.setl_value.specs.code.Body.{Members}
use Rattle.setl_value.specs.code.DatumOf.{datum}
use Rattle.setl_value.specs.code.Places.{rank}
use Rattle.setl_map.specs.code.Points.{is_at}
use Rattle.setl_map.proofs.pairs.leading.Given as goal

abbrev pub invariant-loop-count : goal.invariant-loop-count
invariant-loop-count l =
    (l.count + prefix_len (is_at (datum l.x)) l.rest ≡ prefix_len (is_at (datum l.x)) (drop (rank l.f l.fn.from) (Members l.f))) × (l.count + length l.rest ≤ l.size)
