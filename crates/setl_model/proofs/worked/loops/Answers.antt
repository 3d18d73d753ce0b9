use Rattle.setl_model.proofs.tables.Loops.{source_rows_hold, pattern_rows_hold, loop_rows_hold, jump_rows_hold, while_rows_hold, choice_rows_hold}
use Rattle.setl_model.proofs.worked.loops.Goals as goal

pub returns-clause-source_rows : goal.returns-clause-source_rows
returns-clause-source_rows c = source_rows_hold

pub returns-clause-pattern_rows : goal.returns-clause-pattern_rows
returns-clause-pattern_rows c = pattern_rows_hold

pub returns-clause-loop_rows : goal.returns-clause-loop_rows
returns-clause-loop_rows c = loop_rows_hold

pub returns-clause-jump_rows : goal.returns-clause-jump_rows
returns-clause-jump_rows c = jump_rows_hold

pub returns-clause-while_rows : goal.returns-clause-while_rows
returns-clause-while_rows c = while_rows_hold

pub returns-clause-choice_rows : goal.returns-clause-choice_rows
returns-clause-choice_rows c = choice_rows_hold
