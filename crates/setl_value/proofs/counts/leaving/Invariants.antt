use Rattle.std.proofs.Common.{◌≡◌, ◌≤◌, ◌+◌, take}
use Rattle.std.specs.Prelude.{max}
use Rattle.setl_value.specs.Datum.{depth, set_of}
use Rattle.setl_value.specs.Pairs.{other_count}
use Rattle.setl_value.proofs.counts.leaving.Given as goal

abbrev pub invariant-loop-v : goal.invariant-loop-v
invariant-loop-v l =
    (l.gone.others + other_count (take l.left l.v-iterator) ≡ other_count (take l.fn.count l.fn.members))
    × (max l.gone.deep (depth (set_of (take l.left l.v-iterator))) ≡ depth (set_of (take l.fn.count l.fn.members)))
    × (l.gone.others + l.left ≤ l.fn.count) × (1 ≤ l.gone.deep) × (depth (set_of l.v-iterator) ≤ 500)
