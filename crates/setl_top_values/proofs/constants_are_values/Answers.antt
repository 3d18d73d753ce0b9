use Rattle.setl_top_values.proofs.Marking.{marked_constants}
use Rattle.setl_top_values.proofs.Whole.{constants_are_values}
use Rattle.setl_top_values.proofs.constants_are_values.Goals as goal

pub returns-clause-plain : goal.returns-clause-plain
returns-clause-plain c = constants_are_values

pub returns-clause-marked : goal.returns-clause-marked
returns-clause-marked c = marked_constants
