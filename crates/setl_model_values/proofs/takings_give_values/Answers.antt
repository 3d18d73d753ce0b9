use Rattle.setl_model_values.proofs.Places.{takings_give_values}
use Rattle.setl_model_values.proofs.takings_give_values.Goals as goal

pub returns : goal.returns
returns c = takings_give_values
