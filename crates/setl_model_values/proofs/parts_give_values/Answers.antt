use Rattle.setl_model_values.proofs.Places.{parts_give_values, wholes_give_values, combinations_give_values}
use Rattle.setl_model_values.proofs.parts_give_values.Goals as goal

pub returns : goal.returns
returns c = let law = c.operators_give_values.ensures in record { part = parts_give_values law; whole = wholes_give_values law; combined = combinations_give_values law }
