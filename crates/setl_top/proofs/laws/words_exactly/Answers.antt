use Rattle.setl_top.proofs.Exclude.{words_only}
use Rattle.setl_top.proofs.laws.words_exactly.Goals as goal

pub returns : goal.returns
returns c = words_only c.one_command.ensures
