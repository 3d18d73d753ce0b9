use Rattle.setl_model_values.proofs.Items.{items_are_values}
use Rattle.setl_model_values.proofs.items_are_values.Goals as goal

pub returns : goal.returns
returns c = items_are_values
