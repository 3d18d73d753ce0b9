use Rattle.std.proofs.Common.{◌≡◌, drop}
use Rattle.std.specs.List.{list_all}
use Rattle.setl_image_spelled.specs.Spelled.{step_fits}
use Rattle.setl_image_spelled.proofs.steps.steps_fit.Given as goal

abbrev pub invariant-loop-step : goal.invariant-loop-step
invariant-loop-step l = list_all (step_fits l.globals l.own) (drop l.step-index l.steps) ≡ list_all (step_fits l.globals l.own) l.steps
