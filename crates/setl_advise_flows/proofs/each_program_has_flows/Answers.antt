use Rattle.setl_advise_flows.proofs.Solved.{each_has_solution}
use Rattle.setl_advise_flows.proofs.each_program_has_flows.Goals as goal

pub returns : goal.returns
returns c = each_has_solution
