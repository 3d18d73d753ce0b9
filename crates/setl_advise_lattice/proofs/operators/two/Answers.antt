use Rattle.std.proofs.Common.{arith}
use Rattle.setl_advise_lattice.proofs.Lengths.{not_two}
use Rattle.setl_advise_lattice.proofs.operators.two.Goals as goal

pub returns-in-len1 : goal.returns-in-len1
returns-in-len1 c = not_two c.args.ws.now (λ e. omega (arith, e, c.in-len1))

pub returns-in-len3-up : goal.returns-in-len3-up
returns-in-len3-up c = not_two c.args.ws.now (λ e. omega (arith, e, c.in-len3-up))
