use Rattle.setl_parse_reading.proofs.Stops as stops
use Rattle.setl_parse_reading.proofs.claims.faults_are_exact.Goals as goal

pub returns-clause-fault : goal.returns-clause-fault
returns-clause-fault c = stops.fault_is_exact

pub returns-clause-leftover : goal.returns-clause-leftover
returns-clause-leftover c = stops.leftover_is_exact
