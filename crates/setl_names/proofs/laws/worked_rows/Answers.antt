use Rattle.std.proofs.Common.{refl}
use Rattle.setl_names.proofs.laws.worked_rows.Goals as goal

pub returns-clause-heads : goal.returns-clause-heads
returns-clause-heads c = refl

pub returns-clause-rules : goal.returns-clause-rules
returns-clause-rules c = refl

pub returns-clause-slots : goal.returns-clause-slots
returns-clause-slots c = refl

pub returns-clause-order : goal.returns-clause-order
returns-clause-order c = refl
