use Rattle.setl_advise_conditions.specs.Grown.{Grown}
use Rattle.setl_advise_conditions.specs.Rank.{room}
use Rattle.setl_advise_gathering.specs.code.Plain.{listed}
use Rattle.setl_advise_terms.specs.code.Plain.{flows_of}
use Rattle.setl_advise_solving.proofs.looking.hastened.Given as goal

abbrev pub invariant-rounds : goal.invariant-rounds
invariant-rounds l = Grown (listed l.conditions) (flows_of l.table)

abbrev pub decreases-rounds : goal.decreases-rounds
decreases-rounds l = room (listed l.conditions) (flows_of l.table)
