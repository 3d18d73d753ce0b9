use Rattle.setl_code_turns.proofs.Laws.{reach, spent, there, ends, keeps}
use Rattle.setl_code_turns.proofs.Steps.{never_grows}
use Rattle.setl_code_turns.proofs.fewer_turns_cut.Goals as goal

pub returns-clause-reach : goal.returns-clause-reach
returns-clause-reach c = reach

pub returns-clause-spent : goal.returns-clause-spent
returns-clause-spent c = spent

pub returns-clause-ends : goal.returns-clause-ends
returns-clause-ends c = ends

pub returns-clause-left : goal.returns-clause-left
returns-clause-left c = never_grows

pub returns-clause-keeps : goal.returns-clause-keeps
returns-clause-keeps c = keeps

pub returns-clause-there : goal.returns-clause-there
returns-clause-there c = there
