use Rattle.std.proofs.Common.{◌∙◌, ap}
use Rattle.std.proofs.lemmas.Result.{IfOk-weaker}
use Rattle.setl_remote.specs.Words.{members}
use Rattle.setl_remote.proofs.bits.Bits.numbers.Goals as goal

pub returns-clause-members : goal.returns-clause-members
returns-clause-members c =
    IfOk-weaker c.numbers.result _ _ (λ list says. says ∙ ap members (c.as_slice.ensures.value ∙ ap (λ v. v.items) c.deref.ensures) ∙ c.self.view_is) c.numbers.ensures.members
