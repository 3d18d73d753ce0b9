use Rattle.std.proofs.Common.{arith}
use Rattle.setl_advise_terms.proofs.Sources.{not_whole}
use Rattle.setl_advise_terms.proofs.iterators.whole.Goals as goal

pub returns-in-len2-up : goal.returns-in-len2-up
returns-in-len2-up c = not_whole c.args.ws.now (λ e. omega (arith, e, c.in-len2-up))
