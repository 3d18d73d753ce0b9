use Rattle.setl_parse_reading.proofs.Top as top
use Rattle.setl_parse_reading.proofs.claims.tree_is_unique.Goals as goal

pub returns-clause-more : goal.returns-clause-more
returns-clause-more c = top.nestings_may_be_more

pub returns-clause-unique : goal.returns-clause-unique
returns-clause-unique c = top.tree_is_unique
