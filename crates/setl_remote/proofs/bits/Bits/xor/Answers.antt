use Rattle.std.proofs.Common.{◌∙◌, sym, ◌||◌}
use Rattle.std.specs.Cmp.{nat_cmp_total}
use Rattle.std.specs.FinSet as set
use Rattle.std.proofs.lemmas.Result.{IfOk-weaker}
use Rattle.setl_remote.proofs.Members.{same_members}
use Rattle.setl_remote.proofs.bits.Bits.xor.Goals as goal

pub returns : goal.returns
returns c =
    IfOk-weaker c.combined.result _ _ (λ bits says. same_members bits _ (λ q. says q ∙ sym (set.contains-union nat_cmp_total (set.difference c.args.a.now c.args.b.now) (set.difference c.args.b.now c.args.a.now) q ∙ (λ i. set.contains-difference nat_cmp_total c.args.a.now c.args.b.now q i || set.contains-difference nat_cmp_total c.args.b.now c.args.a.now q i)))) c.combined.ensures
