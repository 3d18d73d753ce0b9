use Rattle.std.proofs.Common.{◌≡◌, ◌<◌, [], get_or, length, vec_len}
use Rattle.setl_image_shapes.specs.Runs.{Grown, laid}
use Rattle.setl_image_shapes.proofs.stacks.Stacks.lay.Given as goal

abbrev pub invariant-parts : goal.invariant-parts
invariant-parts l = record {
  here : l.at < length l.self;
  grown : Grown l.fn.self l.self;
  same : laid l.parts.items (get_or l.self l.at []) ≡ laid l.fn.parts.items (get_or l.fn.self l.fn.number []);
}

abbrev pub decreases-parts : goal.decreases-parts
decreases-parts l = vec_len l.parts
