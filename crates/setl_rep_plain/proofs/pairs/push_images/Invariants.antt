use Rattle.std.proofs.Common.{◌≡◌, ◌≤◌, ◌++◌, map}
use Rattle.setl_value.specs.Datum.{depth, set_of}
use Rattle.setl_value.specs.Pairs.{pair}
use Rattle.setl_value.specs.code.Body.{Members}
use Rattle.setl_value.specs.code.DatumOf.{datum}
use Rattle.setl_rep_plain.proofs.pairs.push_images.Given as goal

abbrev pub invariant-loop-y : goal.invariant-loop-y
invariant-loop-y l =
    let with_x = map (pair (datum l.x)) in
    (map datum l.pairs.items ++ with_x l.y-iterator ≡ map datum l.initial.pairs.items ++ with_x (Members l.images))
    × (depth (set_of (with_x l.y-iterator)) ≤ 500)
