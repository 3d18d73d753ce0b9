use Rattle.std.proofs.Common.{sym, subst}
use Rattle.setl_value.specs.code.Body.{Members}
use Rattle.setl_value.specs.Order.{IsRising}
use Rattle.setl_set.proofs.Places.{rising_from_set}
use Rattle.setl_set.proofs.rising.walk.Goals as goal

pub returns-clause-rising : goal.returns-clause-rising
returns-clause-rising c = subst IsRising (sym c.members.ensures) (rising_from_set (Members c.args.s.now) c.learn.ensures)
