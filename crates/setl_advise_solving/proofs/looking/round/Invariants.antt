use Rattle.setl_advise_gathering.specs.code.Plain.{listed}
use Rattle.setl_advise_terms.specs.code.Plain.{flows_of}
use Rattle.setl_advise_solving.specs.Worked.{Worked}
use Rattle.setl_advise_solving.proofs.looking.round.Given as goal

abbrev pub invariant-loop-k : goal.invariant-loop-k
invariant-loop-k l = Worked (listed l.conditions) l.rose (flows_of l.initial.table) (flows_of l.table)
