use Rattle.std.proofs.Common.{length, arith, ◌≤◌}
use Rattle.setl_image_operands.proofs.Linking.{all_are_signed}
use Rattle.setl_image_operands.proofs.shapes.signatures.Goals as goal

pub returns : goal.returns
returns c vars n =
    let past : length c.args.bodies.now ≤ c.loop-body.body-index = omega arith in
    all_are_signed vars n c.loop-body.body-index c.args.bodies.now c.loop-body.calls.items past c.loop-body.invariant
