use Rattle.setl_advise_solving.proofs.worklist.Worklist.wake.Given as goal

abbrev pub decreases-readers : goal.decreases-readers
decreases-readers l = l.number
