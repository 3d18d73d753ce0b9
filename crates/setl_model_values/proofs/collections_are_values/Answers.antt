use Rattle.setl_model_values.proofs.Items.{are_admitted, collections_are_values}
use Rattle.setl_model_values.proofs.collections_are_values.Goals as goal

pub returns : goal.returns
returns c = record { admitted = are_admitted; collected = collections_are_values c.operations_have_their_members.ensures.gather }
