use Rattle.std.proofs.Common.{◌≡◌, ◌∙◌, ◌<◌, length, sym, ap, subst, refl}
use Rattle.std.proofs.lemmas.Option.{same_Some}
use Rattle.setl_value.specs.code.DatumOf.{part}
use Rattle.setl_code.specs.CodeCore.{There, Gone, write}
use Rattle.setl_code.specs.Plain.{plain_slot}
use Rattle.setl_modes.specs.declared.mode.Mode.{Mode}
use Rattle.setl_rep_forms.specs.declared.held.Held.{Held as Form}
use Rattle.setl_rep_plain.specs.Standing.{held_value, IsHeldOver}
use Rattle.setl_store_slots.specs.Slots.{IsStanding}
use Rattle.setl_store_slots.specs.declared.cells.Held.TheVariants as held
use Rattle.setl_store.specs.Flat.{held_of, IsPlainSlot}
use Rattle.setl_store.specs.Operands.{IsThere}
use Rattle.setl_store.specs.Standing.{variables}
use Rattle.setl_store.proofs.OperandLists.{Changed}
use Rattle.setl_store.proofs.Slots.{place_within, slot_at, slot_again, slot_stored}
use Rattle.setl_store.proofs.StandingSlots.{standing_at, plain_there}
use Rattle.setl_store.proofs.store.Store.take_slot.Goals as goal
use Rattle.setl_store.proofs.store.Store.take_slot.Goals.{After-plain-arg-in-Based-1, In_ok-value-in-Based, In_ok-write_slot-in-Based, In_ok-take_slot-in_default}

pub place-at-requires-clause-there : goal.place-at-requires-clause-there
place-at-requires-clause-there c = place_within c.self.inside.code.now c.self.inside.bases c.self.inside.at c.self.inside.environment.now c.self.inside.environment.kept c.args.self.now c.args.slot c.self.invariant.1 c.self.view_is c.requires.slot

pub slot-requires : goal.slot-requires
slot-requires c =
    subst (λ n. n < length c.self.inside.environment.now.slots) (sym c.place-at.ensures)
    (place_within c.self.inside.code.now c.self.inside.bases c.self.inside.at c.self.inside.environment.now c.self.inside.environment.kept c.args.self.now c.args.slot c.self.invariant.1 c.self.view_is c.requires.slot)

-- ---- a value in a form

standing : (c : After-plain-arg-in-Based-1) → IsHeldOver c.self.inside.bases c.get.result.now
standing c =
    let whole : IsStanding c.self.inside.bases (held.Based c.in-Based.field-0 c.in-Based.held) = subst (IsStanding c.self.inside.bases) c.in-Based.is (standing_at c.self.inside.bases c.self.inside.environment.now.slots c.place-at.result c.slot.result.now c.self.invariant.2.standing c.slot.ensures) in
    subst (IsHeldOver c.self.inside.bases) (sym c.get.ensures) whole.0

pub plain-requires-clause-over : goal.plain-requires-clause-over
plain-requires-clause-over c = (standing c).over

pub plain-requires-clause-shallow : goal.plain-requires-clause-shallow
plain-requires-clause-shallow c = (standing c).shallow

pub write_slot-requires : goal.write_slot-requires
write_slot-requires c =
    subst (λ n. n < length c.self.inside.environment.now.slots) (sym c.place-at.ensures)
    (place_within c.self.inside.code.now c.self.inside.bases c.self.inside.at c.self.inside.environment.now c.self.inside.environment.kept c.args.self.now c.args.slot c.self.invariant.1 c.self.view_is c.requires.slot)

shown : (c : In_ok-value-in-Based) → held_of c.self.inside.bases c.slot.result.now ≡ There (part c.in_ok-value-in-Based.value)
shown c = ap (held_of c.self.inside.bases) c.in-Based.is ∙ ap (λ h. There (held_value c.self.inside.bases h)) (sym c.get.ensures) ∙ ap (λ v. There v) (sym c.in_ok-value-in-Based.ensures)

made : (c : In_ok-write_slot-in-Based) → Changed c.self.inside.code.now c.self.inside.bases c.self.inside.keeps c.self.inside.at c.write_slot.new.environment.now c.write_slot.new.environment.kept c.args.self.now (write (plain_slot (variables c.args.self.now.core) c.args.slot) Gone c.args.self.now.core)
made c =
    slot_stored c.self.inside.code.now c.self.inside.bases c.self.inside.keeps c.self.inside.at c.self.inside.environment.now c.write_slot.new.environment.now c.self.inside.environment.kept c.write_slot.new.environment.kept c.args.self.now c.args.slot c.place-at.result held.Taken Gone
    c.self.invariant c.self.view_is c.requires.slot c.place-at.ensures tt c.in_ok-write_slot-in-Based.ensures.now c.in_ok-write_slot-in-Based.ensures.kept refl

pub invariant_of-self-in-Based : goal.invariant_of-self-in-Based
invariant_of-self-in-Based c = (made (goal.at.invariant_of-self-in-Based c).In_ok-write_slot-in-Based).holds

pub returns-in_ok-write_slot-in-Based : goal.returns-in_ok-write_slot-in-Based
returns-in_ok-write_slot-in-Based c =
    let at = goal.at.returns-in_ok-write_slot-in-Based c in
    record {
      value = slot_at c.self.inside.code.now c.self.inside.bases c.self.inside.keeps c.self.inside.at c.self.inside.environment.now c.self.inside.environment.kept c.args.self.now c.args.slot c.place-at.result c.slot.result.now
          c.self.invariant c.self.view_is c.requires.slot c.place-at.ensures c.slot.ensures ∙ shown at.In_ok-value-in-Based;
      again = slot_again c.self.inside.code.now c.self.inside.bases c.self.inside.keeps c.self.inside.at c.self.inside.environment.now c.self.inside.environment.kept c.args.self.now c.args.slot c.place-at.result c.slot.result.now (There (part c.in_ok-value-in-Based.value))
          c.self.invariant c.self.view_is c.requires.slot c.place-at.ensures c.slot.ensures (shown at.In_ok-value-in-Based);
      taken = (made at.In_ok-write_slot-in-Based).stands;
      refused = tt;
    }

-- ---- a value as it is

pub take_slot-requires : goal.take_slot-requires
take_slot-requires c =
    subst (λ n. n < length c.self.inside.environment.now.slots) (sym c.place-at.ensures)
    (place_within c.self.inside.code.now c.self.inside.bases c.self.inside.at c.self.inside.environment.now c.self.inside.environment.kept c.args.self.now c.args.slot c.self.invariant.1 c.self.view_is c.requires.slot)

plain_before : (c : In_ok-take_slot-in_default) → IsPlainSlot c.in_ok-take_slot-in_default.field-0
plain_before c =
    let h = c.in_ok-take_slot-in_default.field-0 in
    let same : c.slot.result.now ≡ h = same_Some c.slot.result.now h (c.slot.ensures ∙ sym c.in_ok-take_slot-in_default.ensures.value) in
    plain_there c.self.inside.bases h
    (subst IsThere (slot_at c.self.inside.code.now c.self.inside.bases c.self.inside.keeps c.self.inside.at c.self.inside.environment.now c.self.inside.environment.kept c.args.self.now c.args.slot c.place-at.result c.slot.result.now
    c.self.invariant c.self.view_is c.requires.slot c.place-at.ensures c.slot.ensures ∙ ap (held_of c.self.inside.bases) same) c.requires.there)
    (λ (m : Mode) (f : Form) e. c.in_default.not-Based m f (same ∙ e))

pub held_value-requires : goal.held_value-requires
held_value-requires c = plain_before (goal.at.held_value-requires c).In_ok-take_slot-in_default

taken : (c : In_ok-take_slot-in_default) → Changed c.self.inside.code.now c.self.inside.bases c.self.inside.keeps c.self.inside.at c.take_slot.new.environment.now c.take_slot.new.environment.kept c.args.self.now (write (plain_slot (variables c.args.self.now.core) c.args.slot) Gone c.args.self.now.core)
taken c =
    slot_stored c.self.inside.code.now c.self.inside.bases c.self.inside.keeps c.self.inside.at c.self.inside.environment.now c.take_slot.new.environment.now c.self.inside.environment.kept c.take_slot.new.environment.kept c.args.self.now c.args.slot c.place-at.result held.Taken Gone
    c.self.invariant c.self.view_is c.requires.slot c.place-at.ensures tt c.in_ok-take_slot-in_default.ensures.now c.in_ok-take_slot-in_default.ensures.kept refl

pub invariant_of-self-in_default : goal.invariant_of-self-in_default
invariant_of-self-in_default c = (taken (goal.at.invariant_of-self-in_default c).In_ok-take_slot-in_default).holds

pub returns-in_ok-take_slot-in_default : goal.returns-in_ok-take_slot-in_default
returns-in_ok-take_slot-in_default c =
    let at = goal.at.returns-in_ok-take_slot-in_default c in
    let h = c.in_ok-take_slot-in_default.field-0 in
    record {
      value =
          slot_at c.self.inside.code.now c.self.inside.bases c.self.inside.keeps c.self.inside.at c.self.inside.environment.now c.self.inside.environment.kept c.args.self.now c.args.slot c.place-at.result h
          c.self.invariant c.self.view_is c.requires.slot c.place-at.ensures c.in_ok-take_slot-in_default.ensures.value
          ∙ c.held_value.ensures c.self.inside.bases;
      again =
          slot_again c.self.inside.code.now c.self.inside.bases c.self.inside.keeps c.self.inside.at c.self.inside.environment.now c.self.inside.environment.kept c.args.self.now c.args.slot c.place-at.result h (There (part c.held_value.result))
          c.self.invariant c.self.view_is c.requires.slot c.place-at.ensures c.in_ok-take_slot-in_default.ensures.value (c.held_value.ensures c.self.inside.bases);
      taken = (taken at.In_ok-take_slot-in_default).stands;
      refused = tt;
    }
