use Rattle.setl_parse.proofs.Faults.{fault_is_unique, programs_have_no_fault, others_have_a_fault}
use Rattle.setl_parse.proofs.laws.one_fault.Goals as goal

pub returns-clause-unique : goal.returns-clause-unique
returns-clause-unique c = fault_is_unique c.fault_is_unique.ensures.unique

pub returns-clause-none : goal.returns-clause-none
returns-clause-none c = programs_have_no_fault c.fault_is_unique.ensures.none

pub returns-clause-either : goal.returns-clause-either
returns-clause-either c = others_have_a_fault c.reading_meets_grammar.ensures.sound c.faults_are_exact.ensures.fault c.faults_are_exact.ensures.leftover
