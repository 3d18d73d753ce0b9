use Rattle.setl_advise_conditions.specs.Grown.{Grown}
use Rattle.setl_advise_conditions.specs.Rank.{room}
use Rattle.setl_advise_gathering.specs.code.Plain.{listed}
use Rattle.setl_advise_terms.specs.code.Plain.{flows_of}
use Rattle.setl_advise_solving.proofs.sweeps.settled.Given as goal

abbrev pub invariant-sweeps : goal.invariant-sweeps
invariant-sweeps l = Grown (listed l.conditions) (flows_of l.table)

abbrev pub decreases-sweeps : goal.decreases-sweeps
decreases-sweeps l = room (listed l.conditions) (flows_of l.table)
