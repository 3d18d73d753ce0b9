use Rattle.setl_base.proofs.OverTime.{entering_keeps, undo_gives_back}
use Rattle.setl_base.proofs.laws.entering_keeps_the_blocks.Goals as goal

pub returns : goal.returns
returns c = record { kept = entering_keeps; taken_back = undo_gives_back }
