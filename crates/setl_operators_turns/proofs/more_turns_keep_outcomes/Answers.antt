use Rattle.setl_operators_turns.specs.Operators.{op_keeps}
use Rattle.setl_operators_turns.proofs.more_turns_keep_outcomes.Goals as goal

pub returns : goal.returns
returns c = op_keeps
