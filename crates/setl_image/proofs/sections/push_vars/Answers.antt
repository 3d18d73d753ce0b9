use Rattle.std.proofs.Common.{◌≡◌, ◌++◌, OnOk, subst}
use Rattle.setl_image.proofs.Dependent.{vars_fit, vars_written}
use Rattle.setl_image.proofs.sections.push_vars.Goals as goal

pub push_list-requires : goal.push_list-requires
push_list-requires c = vars_fit c.as_slice.result.now c.args.bases.now c.as_slice-2.result.now c.args.vars.now c.as_slice.ensures c.as_slice-2.ensures c.requires

pub returns : goal.returns
returns c =
    subst (λ t. OnOk c.push_list.result (c.push_list.new.into.items ≡ c.args.into.now.items ++ t))
    (vars_written c.as_slice.result.now c.args.bases.now c.as_slice-2.result.now c.args.vars.now c.as_slice.ensures c.as_slice-2.ensures)
    c.push_list.ensures
