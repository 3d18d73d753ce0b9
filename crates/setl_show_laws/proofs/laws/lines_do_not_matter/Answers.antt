use Rattle.setl_show_laws.proofs.MovesPrograms.{derives_moves}
use Rattle.setl_show_laws.proofs.laws.lines_do_not_matter.Goals as goal

pub returns : goal.returns
returns c = derives_moves
