use Rattle.std.proofs.Common.{◌≡◌, ◌++◌, ◌-◌, map, take}
use Rattle.std.specs.List.{filter_map}
use Rattle.setl_value.specs.code.DatumOf.{datum}
use Rattle.setl_map.specs.code.Points.{part_at}
use Rattle.setl_map.proofs.pairs.parts_of.Given as goal

abbrev pub invariant-loop : goal.invariant-loop
invariant-loop l = map datum l.chosen.items ++ filter_map (part_at l.first) (take (l.count - l.counter) l.rest) ≡ filter_map (part_at l.first) (take l.count l.initial.rest)
