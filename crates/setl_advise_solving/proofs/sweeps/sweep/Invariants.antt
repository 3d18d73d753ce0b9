use Rattle.setl_advise_terms.specs.code.Plain.{flows_of}
use Rattle.setl_advise_solving.proofs.Rounds.{Swept}
use Rattle.setl_advise_solving.proofs.sweeps.sweep.Given as goal

abbrev pub invariant-loop-c : goal.invariant-loop-c
invariant-loop-c l = Swept l.conditions l.c-index l.changed (flows_of l.initial.table) (flows_of l.table)
