use Rattle.std.proofs.Common.{arith}
use Rattle.setl_advise_lattice.proofs.Lengths.{not_one}
use Rattle.setl_advise_lattice.proofs.operators.one.Goals as goal

pub returns-in-len2-up : goal.returns-in-len2-up
returns-in-len2-up c = not_one c.args.ws.now (λ e. omega (arith, e, c.in-len2-up))
