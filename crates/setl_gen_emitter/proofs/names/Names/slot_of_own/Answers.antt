use Rattle.std.proofs.Common.{◌∙◌, map, ap, sym}
use Rattle.setl_code.specs.Plain.{variable_at, plain_name}
use Rattle.setl_gen_emitter.specs.Table.{Table, own_variables}
use Rattle.setl_gen_emitter.specs.Slots.{own_variable, own_of}
use Rattle.setl_gen_emitter.proofs.SlotTables.{at_slot}
use Rattle.setl_gen_emitter.proofs.names.Names.slot_of_own.Goals as goal

pub returns-in-Some : goal.returns-in-Some
returns-in-Some c =
    let n = c.self.inside.body in
    let own = own_of n c.self.inside.parameters.now (map (plain_name n) c.self.inside.names) in
    let slot = c.in-Some.slot in
    let x = c.bytes.result.now in
    ap (λ (t : Table). variable_at (own_variables t) slot) (sym c.self.view_is)
    ∙ at_slot own slot (own_variable n c.args.former x) (c.in-Some.ensures.some n own c.self.invariant.1.slots)
    ∙ ap (own_variable n c.args.former) c.bytes.ensures.value
    ∙ ap (λ (t : Table). own_variable t.body c.args.former c.args.name.now) c.self.view_is
