use Rattle.setl_model.specs.StraightRuns.{assign_leads, combine_leads, print_leads}
use Rattle.setl_model.proofs.statements_lead.Goals as goal

pub returns-clause-assign : goal.returns-clause-assign
returns-clause-assign c = assign_leads

pub returns-clause-update : goal.returns-clause-update
returns-clause-update c = combine_leads

pub returns-clause-print : goal.returns-clause-print
returns-clause-print c = print_leads
