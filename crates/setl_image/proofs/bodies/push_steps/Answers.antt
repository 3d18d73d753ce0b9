use Rattle.std.proofs.Common.{◌≡◌, ◌+◌, ◌++◌, length, OnOk, subst, arith}
use Rattle.setl_image.proofs.Dependent.{steps_fit, steps_written}
use Rattle.setl_image.proofs.bodies.push_steps.Goals as goal

pub push_list-requires : goal.push_list-requires
push_list-requires c =
    let own : c.len.result + c.len-2.result ≡ length c.args.parameters.now + length c.args.names.now = omega (arith, c.len.ensures, c.len-2.ensures) in
    steps_fit c.args.globals (c.len.result + c.len-2.result) (length c.args.parameters.now + length c.args.names.now) c.args.steps.now c.as_slice.result.now own c.as_slice.ensures c.requires

pub returns : goal.returns
returns c =
    let own : c.len.result + c.len-2.result ≡ length c.args.parameters.now + length c.args.names.now = omega (arith, c.len.ensures, c.len-2.ensures) in
    subst (λ t. OnOk c.push_list.result (c.push_list.new.into.items ≡ c.args.into.now.items ++ t))
    (steps_written c.args.globals (c.len.result + c.len-2.result) (length c.args.parameters.now + length c.args.names.now) c.args.steps.now c.as_slice.result.now own c.as_slice.ensures)
    c.push_list.ensures
