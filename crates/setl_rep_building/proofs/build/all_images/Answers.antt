use Rattle.std.proofs.Common.{subst}
use Rattle.setl_value.specs.Order.{IsRising}
use Rattle.setl_value.specs.code.Body.{Members}
use Rattle.setl_rep_building.proofs.Facts.{rising_members}
use Rattle.setl_rep_building.proofs.build.all_images.Goals as goal

pub returns-in-Ok-clause-rising : goal.returns-in-Ok-clause-rising
returns-in-Ok-clause-rising c = subst IsRising c.in-Ok.ensures.value (rising_members (Members c.in-Ok.ys) c.learn.ensures)
