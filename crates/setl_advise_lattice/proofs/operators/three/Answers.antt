use Rattle.std.proofs.Common.{arith}
use Rattle.setl_advise_lattice.proofs.Lengths.{not_three}
use Rattle.setl_advise_lattice.proofs.operators.three.Goals as goal

pub returns-in-len1 : goal.returns-in-len1
returns-in-len1 c = not_three c.args.ws.now (λ e. omega (arith, e, c.in-len1))

pub returns-in-len2 : goal.returns-in-len2
returns-in-len2 c = not_three c.args.ws.now (λ e. omega (arith, e, c.in-len2))

pub returns-in-len4-up : goal.returns-in-len4-up
returns-in-len4-up c = not_three c.args.ws.now (λ e. omega (arith, e, c.in-len4-up))
