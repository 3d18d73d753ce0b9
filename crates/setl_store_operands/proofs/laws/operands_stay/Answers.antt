use Rattle.setl_store_operands.proofs.Staying.{operands_stay}
use Rattle.setl_store_operands.proofs.laws.operands_stay.Goals as goal

pub returns : goal.returns
returns c = operands_stay c.forms_stay.ensures.kept
