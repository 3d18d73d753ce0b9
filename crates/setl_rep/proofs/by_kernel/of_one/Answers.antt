use Rattle.std.proofs.Common.{IfOk, sym, subst}
use Rattle.setl_rep.proofs.ByKernel.{IsGivenOne}
use Rattle.setl_rep.proofs.by_kernel.of_one.Goals as goal

pub returns-in-Size-clause-value : goal.returns-in-Size-clause-value
returns-in-Size-clause-value c = subst (IsGivenOne c.args.bases.now c.args.s.now c.size_of.result) (sym c.in-Size.is) c.size_of.ensures.value

pub returns-in-Domain-clause-value : goal.returns-in-Domain-clause-value
returns-in-Domain-clause-value c =
    subst (λ what. IfOk c.points_of.result (λ o. IsGivenOne c.args.bases.now c.args.s.now o what)) (sym c.in-Domain.is) c.points_of.ensures.value
