use Rattle.std.proofs.Common.{subst, sym}
use Rattle.setl_rep_images.proofs.Points.{HasBelow, goes_on, has_none}
use Rattle.setl_rep_images.proofs.domains.remote_points.Goals as goal

pub loop-n-init : goal.loop-n-init
loop-n-init c =
    let none : HasBelow c.args.slots.now 0 c.in_ok-numbers.numbers = subst (λ ns. HasBelow c.args.slots.now 0 ns) (sym c.in_ok-numbers.ensures) (has_none c.args.slots.now) in
    goes_on c.args.slots.now 0 c.in_ok-numbers.numbers c.put_point.new.numbers none c.in_ok-put_point.ensures
