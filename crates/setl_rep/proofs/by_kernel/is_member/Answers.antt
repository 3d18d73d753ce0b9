use Rattle.setl_rep.proofs.ByKernel.{gives}
use Rattle.setl_rep.proofs.by_kernel.is_member.Goals as goal

pub returns-in-Some-clause-value : goal.returns-in-Some-clause-value
returns-in-Some-clause-value c =
    λ left. gives c.args.bases.now c.free.result.held c.free.result.charged (c.in-Some.ensures.value left) (c.free.ensures.value c.args.bases.now) c.free.ensures.charge
