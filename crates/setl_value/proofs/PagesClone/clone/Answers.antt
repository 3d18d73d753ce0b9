use Rattle.std.proofs.Common.{ap, sym, subst, ◌∙◌}
use Rattle.setl_value.specs.code.Counted.{IsCounted}
use Rattle.setl_value.proofs.PagesOfData.{body_of, cloned}
use Rattle.setl_value.proofs.PagesClone.clone.Goals as goal

pub invariant_of-result : goal.invariant_of-result
invariant_of-result c =
    let i = c.self.inside in
    subst (λ ps. IsCounted ps i.count i.deep i.others) (sym (cloned i.list.items c.in_ok-clone.field-0.items c.in_ok-clone.ensures.cases.0)) c.self.invariant

pub returns : goal.returns
returns c = record { cases = ap body_of (cloned c.self.inside.list.items c.in_ok-clone.field-0.items c.in_ok-clone.ensures.cases.0) ∙ c.self.view_is }
