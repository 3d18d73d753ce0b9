use Rattle.setl_code_layout.proofs.Variables.{of_variables_alone}
use Rattle.setl_code_layout.proofs.layouts_are_of_variables_alone.Goals as goal

pub returns : goal.returns
returns c = of_variables_alone
