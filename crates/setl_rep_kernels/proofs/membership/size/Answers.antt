use Rattle.std.proofs.Common.{◌≡◌, ◌∙◌, ap, sym, Some}
use Rattle.setl_rep_forms.specs.Form.{remote}
use Rattle.setl_rep_forms.specs.FormOf.{form}
use Rattle.setl_rep_based.specs.Numbers.{layout_of, numbers_in}
use Rattle.setl_rep_kernels.specs.Parts.{set_parts}
use Rattle.setl_rep_kernels.proofs.Sets.{form_of_parts, size_op}
use Rattle.setl_rep_kernels.proofs.membership.size.Goals as goal

pub returns-in-Bits-clause-value : goal.returns-in-Bits-clause-value
returns-in-Bits-clause-value c =
    let ns = c.in-Bits.bits.now in
    let parts : set_parts (form c.args.s.now) ≡ Some (remote, c.in_ok-b.b, ns) = sym c.in_ok-b.ensures ∙ ap (λ n. Some (layout_of n, c.in_ok-b.b, numbers_in n)) c.in-Bits.is in
    size_op c.numbers_stand_for_members.ensures.count c.args.bases.now (form c.args.s.now) c.in_ok-b.b ns c.count.result
    (form_of_parts (form c.args.s.now) remote c.in_ok-b.b ns parts) c.requires c.at-base.ensures.known c.count.ensures
