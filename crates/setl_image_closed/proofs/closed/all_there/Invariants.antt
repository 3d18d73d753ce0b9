use Rattle.std.proofs.Common.{◌≡◌, drop}
use Rattle.setl_image_closed.specs.Closed.{all_there}
use Rattle.setl_image_closed.proofs.closed.all_there.Given as goal

abbrev pub invariant-loop-step : goal.invariant-loop-step
invariant-loop-step l = all_there l.counts (drop l.step-index l.steps) ≡ all_there l.counts l.steps
