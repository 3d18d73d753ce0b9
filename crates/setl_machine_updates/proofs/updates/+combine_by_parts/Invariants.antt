use Rattle.std.proofs.Common.{length}
use Rattle.setl_machine_updates.proofs.updates.+combine_by_parts.Given as goal

abbrev pub decreases-combine_by_parts : goal.decreases-combine_by_parts
decreases-combine_by_parts l = length l.at.now
