use Rattle.setl_operators_laws.proofs.Operators.{operators_give_values}
use Rattle.setl_operators_laws.proofs.operators_give_values.Goals as goal

pub returns : goal.returns
returns c = operators_give_values c.operations_have_their_members.ensures.insert c.operations_have_their_members.ensures.gather
