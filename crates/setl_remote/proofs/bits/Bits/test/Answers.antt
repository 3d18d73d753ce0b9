use Rattle.std.proofs.Common.{◌∙◌, sym, ap}
use Rattle.std.specs.FinSet as set
use Rattle.setl_remote.specs.Words.{has_bit}
use Rattle.setl_remote.proofs.Members.{members_at}
use Rattle.setl_remote.proofs.bits.Bits.test.Goals as goal

pub returns : goal.returns
returns c =
    c.is_on.ensures
    ∙ ap (λ words. has_bit words c.args.block) (c.as_slice.ensures.value ∙ ap (λ v. v.items) c.deref.ensures)
    ∙ sym (members_at c.self.inside.words.value.items c.args.block)
    ∙ ap (λ s. set.contains s c.args.block) c.self.view_is
