use Rattle.std.proofs.Common.{◌∙◌}
use Rattle.setl_gen_emitter.proofs.SlotTables.{own_if_some, own_found}
use Rattle.setl_gen_emitter.proofs.names.own_slot.Goals as goal

pub returns-clause-some : goal.returns-clause-some
returns-clause-some c =
    own_if_some (c.args.former, c.args.name) c.args.slots.now.entries c.copied.result (c.copied.ensures ∙ c.get.ensures.value)

pub returns-clause-key : goal.returns-clause-key
returns-clause-key c =
    own_found (c.args.former, c.args.name) c.args.slots.now.entries c.copied.result (c.copied.ensures ∙ c.get.ensures.value)
