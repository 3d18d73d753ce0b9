use Rattle.std.proofs.Common.{◌+◌}
use Rattle.setl_live_reads.proofs.Bits.{either_all, either_only}
use Rattle.setl_live_reads.proofs.masks.behind.Goals as goal

pub returns-in-Either-clause-all : goal.returns-in-Either-clause-all
returns-in-Either-clause-all c k to small within has =
    either_all c.args.way (c.args.step + 1) to c.in-Either.to c.args.masks.now c.at-in-Either.result c.at-in-Either-2.result k c.in-Either.is c.at-in-Either.ensures c.at-in-Either-2.ensures within has

pub returns-in-Either-clause-only : goal.returns-in-Either-clause-only
returns-in-Either-clause-only c k small has =
    either_only c.args.way (c.args.step + 1) c.in-Either.to c.args.masks.now c.at-in-Either.result c.at-in-Either-2.result k c.in-Either.is c.at-in-Either.ensures c.at-in-Either-2.ensures has
