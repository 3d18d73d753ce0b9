use Rattle.setl_parse_reading.proofs.Stops as stops
use Rattle.setl_parse_reading.proofs.claims.fault_is_unique.Goals as goal

pub returns-clause-unique : goal.returns-clause-unique
returns-clause-unique c = stops.fault_is_unique

pub returns-clause-none : goal.returns-clause-none
returns-clause-none c = stops.programs_have_no_fault
