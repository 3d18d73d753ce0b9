use Rattle.std.proofs.Common.{◌≡◌, ◌<◌, [], get_or, length}
use Rattle.setl_image_shapes.specs.Runs.{without}
use Rattle.setl_image_shapes.proofs.stacks.Stacks.without.Given as goal

abbrev pub invariant-runs : goal.invariant-runs
invariant-runs l = record {
  unchanged : l.self ≡ l.fn.self;
  here : l.at < length l.self;
  same : without l.level l.left (get_or l.self l.at []) ≡ without l.level l.count (get_or l.self l.number []);
}

abbrev pub decreases-runs : goal.decreases-runs
decreases-runs l = l.left
