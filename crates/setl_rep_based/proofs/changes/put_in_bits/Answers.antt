use Rattle.setl_rep_based.proofs.Changing.{living_put}
use Rattle.setl_rep_based.proofs.changes.put_in_bits.Goals as goal

pub returns-clause-living : goal.returns-clause-living
returns-clause-living c = living_put c.args.base.now c.args.e c.args.on c.args.bits.now c.put.new.self c.requires.member c.requires.living c.in_ok-put.ensures.ok
