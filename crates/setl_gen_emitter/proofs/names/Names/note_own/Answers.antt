use Rattle.std.proofs.Common.{◌≡◌, ◌∙◌, ◌+◌, ◌++◌, ◌∷◌, [], length, map, refl, sym, arith}
use Rattle.setl_code.specs.Plain.{plain_name}
use Rattle.setl_gen_emitter.specs.Table.{Table, with_own}
use Rattle.setl_gen_emitter.specs.Slots.{own_variable}
use Rattle.setl_gen_emitter.proofs.SlotTables.{noted_there, noted_new, on_ok, own_kept}
use Rattle.setl_gen_emitter.proofs.names.Names.note_own.Goals as goal

pub returns-then-is_some : goal.returns-then-is_some
returns-then-is_some c =
    let n = c.self.inside.body in
    let u : Table = record { body = n; vars = c.self.inside.vars.now; parameters = c.self.inside.parameters.now; names = map (plain_name n) c.self.inside.names } in
    noted_there c.args.self.now u c.args.former c.bytes.result.now c.args.name.now c.self.inside.own_slots.entries c.self.view_is c.bytes.ensures.value c.self.invariant.1.all
    (sym (c.own_slot.ensures.key n) ∙ sym c.is_some.ensures ∙ c.if-is_some.true)

pub invariant_of-self : goal.invariant_of-self
invariant_of-self c =
    let n = c.self.inside.body in
    let ps = c.self.inside.parameters.now in
    let a = c.in_ok-slot.ensures in
    let b = c.in-Some.ensures in
    let d = c.len.ensures in
    let at : c.in_ok-slot.slot ≡ length ps + length c.self.inside.names = omega arith in (
      c.self.invariant.0,
      own_kept c.add.result n c.args.former c.in_ok-slot.slot ps c.self.inside.names c.add.new.names c.in_ok-own.own c.bytes-2.result.now c.args.name.now c.self.inside.own_slots.entries c.add.new.slots.entries
          c.bytes-2.ensures.value at (c.in_ok-own.ensures n) c.self.invariant.1 c.add.ensures.names c.add.ensures.slots c.add.ensures.names_stay c.add.ensures.slots_stay,
    )

pub returns : goal.returns
returns c =
    let n = c.self.inside.body in
    let t = c.args.self.now in
    let u : Table = record { body = n; vars = c.self.inside.vars.now; parameters = c.self.inside.parameters.now; names = map (plain_name n) c.self.inside.names } in
    let made : Table = record { body = t.body; vars = t.vars; parameters = t.parameters; names = with_own t.parameters t.names (own_variable t.body c.args.former c.args.name.now) } in
    let new : Table = record { body = n; vars = c.self.inside.vars.now; parameters = c.self.inside.parameters.now; names = map (plain_name n) c.add.new.names } in
    on_ok c.add.result (c.add.new.names ≡ c.self.inside.names ++ c.in_ok-own.own ∷ []) (new ≡ made) c.add.ensures.names
    (noted_new t u c.args.former c.bytes.result.now c.args.name.now c.self.inside.own_slots.entries c.self.view_is c.bytes.ensures.value c.self.invariant.1.all c.self.inside.names c.add.new.names c.in_ok-own.own
    (sym (c.own_slot.ensures.key n) ∙ sym c.is_some.ensures ∙ c.if-is_some.false) refl (c.in_ok-own.ensures n))
