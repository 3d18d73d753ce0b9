use Rattle.setl_operators_table.proofs.Growing.{with_grows, plus_grows}
use Rattle.setl_operators_table.proofs.laws.operands_grow.Goals as goal

pub returns-clause-one_more : goal.returns-clause-one_more
returns-clause-one_more c = with_grows

pub returns-clause-sum : goal.returns-clause-sum
returns-clause-sum c = plus_grows
