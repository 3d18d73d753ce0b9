use Rattle.std.proofs.Common.{◌≡◌, ◌<◌, Err, subst}
use Rattle.std.specs.Prelude.{◌↔◌}
use Rattle.setl_value.specs.code.Body.{Members}
use Rattle.setl_value.specs.Datum.{depth, set_of}
use Rattle.setl_set.specs.declared.SetFault.TheVariants.{Deep}
use Rattle.setl_set.proofs.Depths.{npow_is}
use Rattle.setl_set.proofs.power.npow.Goals as goal

pub returns-clause-deep : goal.returns-clause-deep
returns-clause-deep c = subst (λ a. (c.sized.result ≡ Err Deep) ↔ (500 < depth (set_of a))) (npow_is c.args.n (Members c.args.s.now)) c.sized.ensures.deep
