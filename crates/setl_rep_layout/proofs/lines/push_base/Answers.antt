use Rattle.setl_rep_layout.proofs.BaseLines.{base_line_by}
use Rattle.setl_rep_layout.proofs.lines.push_base.Goals as goal

pub returns : goal.returns
returns c =
    base_line_by c.args.name.now c.args.base.now c.mark.result.count _ _ _ _ _ _ _ _
    c.mark.ensures
    c.in_ok-extend_from_slice.ensures.items
    c.in_ok-extend_from_slice-2.ensures.items
    c.in_ok-push.ensures.items
    c.in_ok-push_decimal.ensures
    c.in_ok-push-2.ensures.items
    c.in_ok-push_members.ensures
    c.in_ok-push-3.ensures.items
