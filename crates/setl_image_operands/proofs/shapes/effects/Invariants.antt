use Rattle.std.proofs.Common.{◌≡◌, map, take}
use Rattle.setl_image_operands.specs.Operands.{effect_at}
use Rattle.setl_image_operands.proofs.shapes.effects.Given as goal

abbrev pub invariant-loop-step : goal.invariant-loop-step
invariant-loop-step l = l.effects.items ≡ map (effect_at l.calls) (take l.step-index l.steps)
