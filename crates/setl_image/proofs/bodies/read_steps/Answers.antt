use Rattle.std.proofs.Common.{◌≡◌, ◌+◌, length, arith}
use Rattle.setl_image.proofs.Dependent.{steps_seen}
use Rattle.setl_image.proofs.bodies.read_steps.Goals as goal

pub returns : goal.returns
returns c =
    let own : c.len.result + c.len-2.result ≡ length c.args.parameters.now + length c.args.names.now = omega (arith, c.len.ensures, c.len-2.ensures) in
    steps_seen c.args.globals (c.len.result + c.len-2.result) (length c.args.parameters.now + length c.args.names.now) c.args.bytes.now c.read_list.result own c.read_list.ensures
