use Rattle.std.proofs.Common.{◌≡◌, ◌++◌, length, OnOk, subst}
use Rattle.setl_image.proofs.Dependent.{bodies_fit, bodies_written}
use Rattle.setl_image.proofs.bodies.push_bodies.Goals as goal

pub push_list-requires : goal.push_list-requires
push_list-requires c = bodies_fit c.len.result (length c.args.vars.now) c.args.bodies.now c.as_slice.result.now c.len.ensures c.as_slice.ensures c.requires

pub returns : goal.returns
returns c =
    subst (λ t. OnOk c.push_list.result (c.push_list.new.into.items ≡ c.args.into.now.items ++ t))
    (bodies_written c.len.result (length c.args.vars.now) c.args.bodies.now c.as_slice.result.now c.len.ensures c.as_slice.ensures)
    c.push_list.ensures
