use Rattle.setl_store_slots.proofs.Parameters.{held_added}
use Rattle.setl_store_slots.proofs.handing.add_held.Goals as goal

pub returns : goal.returns
returns c =
    held_added c.args.bases.now c.args.slot.now c.in-Some.value c.args.all.now.items c.push.new.self.items
    (rw c.in-Some.is at c.in_ok-value.ensures) c.in_ok-push.ensures.items
