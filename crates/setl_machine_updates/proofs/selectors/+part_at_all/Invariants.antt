use Rattle.std.proofs.Common.{length}
use Rattle.setl_machine_updates.proofs.selectors.+part_at_all.Given as goal

abbrev pub decreases-part_at_all : goal.decreases-part_at_all
decreases-part_at_all l = length l.at.now
