use Rattle.setl_watch.proofs.Parts.{in_parts}
use Rattle.setl_watch.proofs.laws.told_in_parts.Goals as goal

pub returns : goal.returns
returns c = in_parts
