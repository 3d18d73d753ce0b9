use Rattle.std.proofs.Common.{IfOk, sym, subst}
use Rattle.setl_rep.proofs.ByKernel.{IsGiven}
use Rattle.setl_rep.proofs.by_kernel.of_two.Goals as goal

pub returns-in-In-clause-value : goal.returns-in-In-clause-value
returns-in-In-clause-value c = subst (IsGiven c.args.bases.now c.args.a.now c.args.b.now c.is_member.result) (sym c.in-In.is) c.is_member.ensures.value

pub returns-in-NotIn-clause-value : goal.returns-in-NotIn-clause-value
returns-in-NotIn-clause-value c = subst (IsGiven c.args.bases.now c.args.a.now c.args.b.now c.is_no_member.result) (sym c.in-NotIn.is) c.is_no_member.ensures.value

pub returns-in-Add-clause-value : goal.returns-in-Add-clause-value
returns-in-Add-clause-value c =
    subst (λ what. IfOk c.of_sets.result (λ o. IsGiven c.args.bases.now c.args.a.now c.args.b.now o what)) (sym c.in-Add.is) c.of_sets.ensures.value

pub returns-in-Subtract-clause-value : goal.returns-in-Subtract-clause-value
returns-in-Subtract-clause-value c =
    subst (λ what. IfOk c.of_sets-in-Subtract.result (λ o. IsGiven c.args.bases.now c.args.a.now c.args.b.now o what)) (sym c.in-Subtract.is) c.of_sets-in-Subtract.ensures.value

pub returns-in-Multiply-clause-value : goal.returns-in-Multiply-clause-value
returns-in-Multiply-clause-value c =
    subst (λ what. IfOk c.of_sets-in-Multiply.result (λ o. IsGiven c.args.bases.now c.args.a.now c.args.b.now o what)) (sym c.in-Multiply.is) c.of_sets-in-Multiply.ensures.value

pub returns-in-Modulo-clause-value : goal.returns-in-Modulo-clause-value
returns-in-Modulo-clause-value c =
    subst (λ what. IfOk c.of_sets-in-Modulo.result (λ o. IsGiven c.args.bases.now c.args.a.now c.args.b.now o what)) (sym c.in-Modulo.is) c.of_sets-in-Modulo.ensures.value

pub returns-in-Get-clause-value : goal.returns-in-Get-clause-value
returns-in-Get-clause-value c =
    subst (λ what. IfOk c.image_at.result (λ o. IsGiven c.args.bases.now c.args.a.now c.args.b.now o what)) (sym c.in-Get.is) c.image_at.ensures.value

pub returns-in-Images-clause-value : goal.returns-in-Images-clause-value
returns-in-Images-clause-value c =
    subst (λ what. IfOk c.images_at.result (λ o. IsGiven c.args.bases.now c.args.a.now c.args.b.now o what)) (sym c.in-Images.is) c.images_at.ensures.value
