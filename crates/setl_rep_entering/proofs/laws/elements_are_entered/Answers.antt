use Rattle.setl_rep_entering.proofs.Elements.{elements_are_entered, entered_is_undone}
use Rattle.setl_rep_entering.proofs.laws.elements_are_entered.Goals as goal

pub returns-clause-entered : goal.returns-clause-entered
returns-clause-entered c = elements_are_entered c.instances_are_read.ensures.put c.instances_are_read.ensures.names

pub returns-clause-undone : goal.returns-clause-undone
returns-clause-undone c = entered_is_undone c.instances_are_read.ensures.put c.instances_are_read.ensures.names c.instances_are_read.ensures.agree
