use Rattle.setl_model_values.proofs.Readings.{readings_give_values}
use Rattle.setl_model_values.proofs.readings_give_values.Goals as goal

pub returns : goal.returns
returns c = readings_give_values c.denotations_are_exact.ensures c.operations_have_their_members.ensures.gather
