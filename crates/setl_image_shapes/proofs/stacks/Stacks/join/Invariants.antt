use Rattle.std.proofs.Common.{◌≡◌, ◌<◌, [], get_or, length, option_map}
use Rattle.setl_image_shapes.specs.Runs.{Grown, laid}
use Rattle.setl_image_shapes.specs.Joins.{joined}
use Rattle.setl_image_shapes.proofs.stacks.Stacks.join.Given as goal

abbrev pub invariant-runs : goal.invariant-runs
invariant-runs l = record {
  first : l.a < length l.self;
  second : l.b < length l.self;
  grown : Grown l.fn.self l.self;
  same : option_map (λ s. laid l.upper.items s) (joined (get_or l.self l.a []) (get_or l.self l.b [])) ≡ joined (get_or l.fn.self l.fn.number []) (get_or l.fn.self l.fn.other []);
}

abbrev pub decreases-runs : goal.decreases-runs
decreases-runs l = length (get_or l.self l.a [])
