use Rattle.std.proofs.Common.{◌≡◌, map, take}
use Rattle.setl_image_verify.specs.Turns.{free_way_of}
use Rattle.setl_image_verify.proofs.turns.free_ways.Given as goal

abbrev pub invariant-loop-step : goal.invariant-loop-step
invariant-loop-step l = l.ways.items ≡ map free_way_of (take l.step-index l.steps)
