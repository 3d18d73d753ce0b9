use Rattle.std.proofs.Common.{◌≡◌, ◌++◌, map}
use Rattle.setl_value.specs.code.Body.{Members}
use Rattle.setl_value.specs.code.DatumOf.{datum}
use Rattle.setl_value.specs.Pairs.{pair}
use Rattle.setl_map.proofs.MapResults.{PartsShallow}
use Rattle.setl_map.proofs.maps.pairs_from.Given as goal

abbrev pub invariant-loop-y : goal.invariant-loop-y
invariant-loop-y l =
    (map datum l.pairs.items ++ map (λ y. pair (datum l.x) y) l.y-iterator ≡ map (λ y. pair (datum l.x) y) (Members l.s)) × PartsShallow (datum l.x) l.y-iterator
