use Rattle.setl_rep_bases.proofs.Reading.{names_are_exact, instances_are_put, instances_are_taken, gone_are_taken, main_instances_are_fresh, bases_agree}
use Rattle.setl_rep_bases.proofs.laws.instances_are_read.Goals as goal

pub returns-clause-put : goal.returns-clause-put
returns-clause-put c = instances_are_put

pub returns-clause-taken : goal.returns-clause-taken
returns-clause-taken c = instances_are_taken

pub returns-clause-gone : goal.returns-clause-gone
returns-clause-gone c = gone_are_taken

pub returns-clause-main : goal.returns-clause-main
returns-clause-main c = main_instances_are_fresh

pub returns-clause-names : goal.returns-clause-names
returns-clause-names c = names_are_exact

pub returns-clause-agree : goal.returns-clause-agree
returns-clause-agree c = bases_agree
