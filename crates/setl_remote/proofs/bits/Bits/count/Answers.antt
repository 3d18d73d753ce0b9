use Rattle.std.proofs.Common.{◌∙◌, ap}
use Rattle.std.specs.FinSet as set
use Rattle.setl_remote.specs.Words.{members}
use Rattle.setl_remote.proofs.bits.Bits.count.Goals as goal

pub returns : goal.returns
returns c =
    c.count.ensures
    ∙ ap (λ words. set.len (members words)) (c.as_slice.ensures.value ∙ ap (λ v. v.items) c.deref.ensures)
    ∙ ap set.len c.self.view_is
