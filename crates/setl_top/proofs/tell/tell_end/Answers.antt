use Rattle.setl_top.proofs.tell.tell_end.Goals as goal

pub returns-in-Done : goal.returns-in-Done
returns-in-Done g c = rw c.in-Done.is (record { told = c.tell_made.ensures.told _ c.all_told.ensures })
