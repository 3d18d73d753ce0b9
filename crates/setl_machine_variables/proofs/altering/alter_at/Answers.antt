use Rattle.setl_machine_variables.proofs.altering.alter_at.Goals as goal

pub returns-in_ok-end-in-Put-clause-did : goal.returns-in_ok-end-in-Put-clause-did
returns-in_ok-end-in-Put-clause-did c modes declared fitting = rw c.in-Put.is (c.in_ok-end-in-Put.ensures.did modes declared fitting)

pub returns-in_ok-end-in-Combine-clause-did : goal.returns-in_ok-end-in-Combine-clause-did
returns-in_ok-end-in-Combine-clause-did c modes declared fitting = rw c.in-Combine.is (c.in_ok-end-in-Combine.ensures.did modes declared fitting)

pub returns-in-TakeOut-clause-did : goal.returns-in-TakeOut-clause-did
returns-in-TakeOut-clause-did c modes declared fitting = rw c.in-TakeOut.is (c.take_out.ensures.did modes declared fitting)

pub returns-in-TakeOut-clause-stored : goal.returns-in-TakeOut-clause-stored
returns-in-TakeOut-clause-stored c modes declared = rw c.in-TakeOut.is (c.take_out.ensures.stored modes declared)
