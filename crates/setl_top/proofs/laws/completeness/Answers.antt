use Rattle.setl_top.proofs.Exclude.{complete}
use Rattle.setl_top.proofs.laws.completeness.Goals as goal

pub returns : goal.returns
returns c = complete
