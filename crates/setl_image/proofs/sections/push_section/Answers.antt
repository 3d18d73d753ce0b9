use Rattle.std.proofs.Common.{◌≡◌, OnOk, subst}
use Rattle.setl_image.proofs.ModeSteps.{section_written}
use Rattle.setl_image.proofs.sections.push_section.Goals as goal

pub returns : goal.returns
returns c =
    subst (λ t. OnOk c.push_vars.result (c.push_vars.new.into.items ≡ t))
    (section_written c.args.table.now c.as_slice.result.now c.args.into.now.items c.push_list.new.into.items c.as_slice.ensures c.in_ok-push_list.ensures)
    c.push_vars.ensures
