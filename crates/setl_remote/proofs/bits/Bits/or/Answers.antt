use Rattle.std.proofs.Common.{◌∙◌, sym}
use Rattle.std.specs.Cmp.{nat_cmp_total}
use Rattle.std.specs.FinSet as set
use Rattle.std.proofs.lemmas.Result.{IfOk-weaker}
use Rattle.setl_remote.proofs.Members.{same_members}
use Rattle.setl_remote.proofs.bits.Bits.or.Goals as goal

pub returns : goal.returns
returns c =
    IfOk-weaker c.combined.result _ _ (λ bits says. same_members bits _ (λ q. says q ∙ sym (set.contains-union nat_cmp_total c.args.a.now c.args.b.now q))) c.combined.ensures
