use Rattle.std.proofs.Common.{◌≡◌, map, take}
use Rattle.setl_image_operands.proofs.Linking.{signed}
use Rattle.setl_image_operands.proofs.shapes.signatures.Given as goal

abbrev pub invariant-loop-body : goal.invariant-loop-body
invariant-loop-body l = l.calls.items ≡ map signed (take l.body-index l.bodies)
