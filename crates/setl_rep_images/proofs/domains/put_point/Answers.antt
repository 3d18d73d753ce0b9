use Rattle.std.proofs.Common.{rules, ◌≡◌, true, is_some, sym, subst}
use Rattle.std.specs.FinSet as set
use Rattle.setl_remote.specs.Slots.{slot_at}
use Rattle.setl_rep_images.proofs.Points.{put_one, HasMore}
use Rattle.setl_rep_images.proofs.domains.put_point.Goals as goal

pub returns-in_ok-put : goal.returns-in_ok-put
returns-in_ok-put c =
    let there : is_some (slot_at c.args.slots.now c.args.n) ≡ true = search rules in
    let new : c.put.new.self ≡ set.insert c.args.numbers.now c.args.n = c.in_ok-put.ensures.ok in
    subst (λ ns. HasMore c.args.slots.now c.args.n c.args.numbers.now ns) (sym new) (put_one c.args.slots.now c.args.n c.args.numbers.now there)
