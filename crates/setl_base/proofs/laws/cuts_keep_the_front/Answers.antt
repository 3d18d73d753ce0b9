use Rattle.setl_base.proofs.OverTime.{cuts_keep_the_front}
use Rattle.setl_base.proofs.laws.cuts_keep_the_front.Goals as goal

pub returns : goal.returns
returns c = cuts_keep_the_front
