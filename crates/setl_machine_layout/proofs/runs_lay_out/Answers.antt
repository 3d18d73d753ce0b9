use Rattle.setl_machine_layout.proofs.Ends.{dumps_are_alike}
use Rattle.setl_machine_layout.proofs.runs_lay_out.Goals as goal

pub returns : goal.returns
returns c = dumps_are_alike c.bases_are_entered.ensures.entered c.layouts_are_of_variables_alone.ensures
