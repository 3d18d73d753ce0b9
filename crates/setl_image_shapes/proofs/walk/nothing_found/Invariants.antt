use Rattle.std.proofs.Common.{◌≡◌, ◌≤◌, ◌-◌, length, replicate, None}
use Rattle.setl_image_shapes.proofs.walk.nothing_found.Given as goal

abbrev pub invariant-steps : goal.invariant-steps
invariant-steps l = record {
  same : l.found.items ≡ replicate (length l.found.items) None;
  most : length l.found.items ≤ l.count;
}

abbrev pub decreases-steps : goal.decreases-steps
decreases-steps l = l.count - length l.found.items
