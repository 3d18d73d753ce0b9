use Rattle.setl_advise_gathering.specs.code.Plain.{listed}
use Rattle.setl_advise_gathering.proofs.Passes.{no_argument_left}
use Rattle.setl_advise_gathering.proofs.bindings.passed.Goals as goal

pub returns-else-k-xs : goal.returns-else-k-xs
returns-else-k-xs c = no_argument_left c.args.body c.args.ps.now c.args.xs.now c.pairs.k (listed c.pairs.all.items) _ c.if-k-xs.false c.pairs.invariant
