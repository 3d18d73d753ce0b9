use Rattle.std.proofs.Common.{length}
use Rattle.setl_machine_updates.proofs.updates.+put_by_parts.Given as goal

abbrev pub decreases-put_by_parts : goal.decreases-put_by_parts
decreases-put_by_parts l = length l.at.now
