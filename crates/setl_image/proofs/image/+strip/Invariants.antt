use Rattle.std.proofs.Common.{length}
use Rattle.setl_image.proofs.image.+strip.Given as goal

abbrev pub decreases-strip : goal.decreases-strip
decreases-strip l = length l.mark.now
