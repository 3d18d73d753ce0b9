use Rattle.std.proofs.Common.{◌≡◌, ◌<◌, [], get_or, length}
use Rattle.setl_code.specs.Shapes.{all_serve}
use Rattle.setl_image_shapes.specs.Runs.{Grown}
use Rattle.setl_image_shapes.proofs.stacks.Stacks.serves.Given as goal

abbrev pub invariant-runs : goal.invariant-runs
invariant-runs l = record {
  first : l.a < length l.self;
  second : l.b < length l.self;
  grown : Grown l.fn.self l.self;
  same : all_serve (get_or l.self l.a []) (get_or l.self l.b []) ≡ all_serve (get_or l.fn.self l.fn.number []) (get_or l.fn.self l.fn.other []);
}

abbrev pub decreases-runs : goal.decreases-runs
decreases-runs l = length (get_or l.self l.a [])
