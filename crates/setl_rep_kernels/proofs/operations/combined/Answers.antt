use Rattle.setl_rep_forms.specs.FormOf.{form, of_remote}
use Rattle.setl_rep_forms.specs.declared.held.Held.TheVariants as code
use Rattle.setl_rep_kernels.proofs.Sets.{combined_value, combined_over}
use Rattle.setl_rep_kernels.proofs.operations.combined.Goals as goal

pub returns-clause-value : goal.returns-clause-value
returns-clause-value c =
    combined_value c.operations_go_by_number.ensures.union c.operations_go_by_number.ensures.meet c.operations_go_by_number.ensures.minus c.operations_go_by_number.ensures.symm
    c.args.bases.now c.args.what (form c.args.a.now) (form c.args.b.now) (form (code.Remote c.in-Some.base c.in_ok-bits.bits)) c.in-Some.base c.in-Some.x.now c.in-Some.y.now c.in_ok-bits.bits c.at-base.ensures.known
    c.in-Some.ensures.bits (of_remote c.in-Some.base c.in_ok-bits.bits) c.in_ok-bits.ensures

pub returns-clause-over : goal.returns-clause-over
returns-clause-over c =
    combined_over c.args.bases.now c.args.what (form c.args.a.now) (form c.args.b.now) (form (code.Remote c.in-Some.base c.in_ok-bits.bits)) c.in-Some.base c.in-Some.x.now c.in-Some.y.now c.in_ok-bits.bits
    c.in-Some.ensures.bits (of_remote c.in-Some.base c.in_ok-bits.bits) c.in_ok-bits.ensures c.requires.left c.requires.right
