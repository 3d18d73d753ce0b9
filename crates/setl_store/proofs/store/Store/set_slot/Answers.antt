use Rattle.std.proofs.Common.{◌<◌, ◌∙◌, length, sym, ap, subst}
use Rattle.setl_value.specs.code.DatumOf.{part}
use Rattle.setl_code.specs.CodeCore.{There, write}
use Rattle.setl_code.specs.Plain.{plain_slot}
use Rattle.setl_store_slots.specs.Slots.{IsStanding}
use Rattle.setl_store.specs.Flat.{held_of}
use Rattle.setl_store.specs.Standing.{variables}
use Rattle.setl_store.proofs.OperandLists.{Changed}
use Rattle.setl_store.proofs.Slots.{place_within, slot_stored}
use Rattle.setl_store.proofs.StandingSlots.{value_shown, value_standing}
use Rattle.setl_store.proofs.store.Store.set_slot.Goals as goal
use Rattle.setl_store.proofs.store.Store.set_slot.Goals.{In_ok-write_slot}

pub place-at-requires-clause-there : goal.place-at-requires-clause-there
place-at-requires-clause-there c = place_within c.self.inside.code.now c.self.inside.bases c.self.inside.at c.self.inside.environment.now c.self.inside.environment.kept c.args.self.now c.args.slot c.self.invariant.1 c.self.view_is c.requires

pub write_slot-requires : goal.write_slot-requires
write_slot-requires c =
    subst (λ n. n < length c.self.inside.environment.now.slots) (sym c.place-at.ensures)
    (place_within c.self.inside.code.now c.self.inside.bases c.self.inside.at c.self.inside.environment.now c.self.inside.environment.kept c.args.self.now c.args.slot c.self.invariant.1 c.self.view_is c.requires)

done : (c : In_ok-write_slot) → Changed c.self.inside.code.now c.self.inside.bases c.self.inside.keeps c.self.inside.at c.write_slot.new.environment.now c.write_slot.new.environment.kept c.args.self.now (write (plain_slot (variables c.args.self.now.core) c.args.slot) (There (part c.args.value)) c.args.self.now.core)
done c =
    slot_stored c.self.inside.code.now c.self.inside.bases c.self.inside.keeps c.self.inside.at c.self.inside.environment.now c.write_slot.new.environment.now c.self.inside.environment.kept c.write_slot.new.environment.kept c.args.self.now c.args.slot c.place-at.result c.held.result (There (part c.args.value))
    c.self.invariant c.self.view_is c.requires c.place-at.ensures (subst (IsStanding c.self.inside.bases) (sym c.held.ensures) (value_standing c.self.inside.bases c.args.value)) c.in_ok-write_slot.ensures.now c.in_ok-write_slot.ensures.kept (ap (held_of c.self.inside.bases) c.held.ensures ∙ value_shown c.self.inside.bases c.args.value)

pub invariant_of-self-2 : goal.invariant_of-self-2
invariant_of-self-2 c = (done (goal.at.invariant_of-self-2 c).In_ok-write_slot).holds

pub returns : goal.returns
returns c = (done c).stands
