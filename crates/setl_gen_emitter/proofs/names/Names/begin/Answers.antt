use Rattle.std.proofs.Common.{◌≡◌}
use Rattle.setl_gen_emitter.proofs.SlotTables.{own_begun}
use Rattle.setl_gen_emitter.proofs.names.Names.begin.Goals as goal

pub invariant_of-self : goal.invariant_of-self
invariant_of-self c =
    let after = c.replace.ensures.after in
    let same : c.replace.new.dest.entries ≡ c.in_ok-own_slots.own_slots.entries = cc in
    (c.self.invariant.0, own_begun c.args.body c.args.parameters.now c.new.result c.in_ok-own_slots.own_slots.entries c.replace.new.dest.entries c.new.ensures same (c.in_ok-own_slots.ensures c.args.body))
