use Rattle.std.proofs.Common.{◌∙◌, ap, refl, sym, subst}
use Rattle.std.proofs.lemmas.Option.{same_Some}
use Rattle.std.specs.Prelude.{slice_get}
use Rattle.setl_modes.specs.Modes.{mode_of}
use Rattle.setl_rep_updates.specs.Changed.{given_by}
use Rattle.setl_store_slots.specs.declared.cells.Held.TheVariants as held
use Rattle.setl_store_slots.specs.Updates.{IsOfMode}
use Rattle.setl_store.specs.Flat.{Here}
use Rattle.setl_store.proofs.StandingSlots.{standing_at}
use Rattle.setl_store.proofs.Updating.{refused, untouched, updated}
use Rattle.setl_store.proofs.putting.update_at.Goals as goal
use Rattle.setl_store.proofs.putting.update_at.Goals.{After-set_slot}

pub returns-then-not-is_of_mode-clause-updated : goal.returns-then-not-is_of_mode-clause-updated
returns-then-not-is_of_mode-clause-updated c =
    untouched (given_by c.args.change.now) (mode_of c.args.mode.now) c.args.bases.now c.args.at c.args.environment.now.now c.args.environment.now.now c.slot.result.now c.slot.ensures refl
    (standing_at c.args.bases.now c.args.environment.now.now.slots c.args.at c.slot.result.now c.requires.standing c.slot.ensures)

pub returns-in-Err-clause-updated : goal.returns-in-Err-clause-updated
returns-in-Err-clause-updated c =
    refused (given_by c.args.change.now) (mode_of c.args.mode.now) c.args.bases.now c.args.at c.args.environment.now.now c.reserve.new.self.now c.slot.result.now c.in-Err.refused c.slot.ensures c.reserve.ensures.now
    (standing_at c.args.bases.now c.args.environment.now.now.slots c.args.at c.slot.result.now c.requires.standing c.slot.ensures)

pub returns-in-Err-replace_slot-clause-updated : goal.returns-in-Err-replace_slot-clause-updated
returns-in-Err-replace_slot-clause-updated c =
    refused (given_by c.args.change.now) (mode_of c.args.mode.now) c.args.bases.now c.args.at c.args.environment.now.now c.replace_slot.new.self.now c.slot.result.now c.in-Err-replace_slot.refused c.slot.ensures
    (ap (λ x. x.now) c.in-Err-replace_slot.ensures.refused ∙ c.reserve.ensures.now) (standing_at c.args.bases.now c.args.environment.now.now.slots c.args.at c.slot.result.now c.requires.standing c.slot.ensures)

pub update-done-requires : goal.update-done-requires
update-done-requires c =
    standing_at c.args.bases.now c.args.environment.now.now.slots c.args.at c.in-Ok.slot c.requires.standing (c.in-Ok.ensures.value ∙ ap (λ (x : Here). slice_get x.slots c.args.at) c.reserve.ensures.now)

of_mode : (c : After-set_slot) → IsOfMode (mode_of c.args.mode.now) c.in-Ok.slot
of_mode c =
    subst (IsOfMode (mode_of c.args.mode.now)) (same_Some c.slot.result.now c.in-Ok.slot (c.slot.ensures ∙ sym (c.in-Ok.ensures.value ∙ ap (λ (x : Here). slice_get x.slots c.args.at) c.reserve.ensures.now)))
    (c.is_of_mode.ensures c.if-not-is_of_mode.false)

pub returns-clause-updated : goal.returns-clause-updated
returns-clause-updated c =
    updated c.bases_are_lengthened.ensures.members (given_by c.args.change.now) (mode_of c.args.mode.now) c.args.bases.now c.update-done.new.bases c.args.at c.args.environment.now.now c.reserve.new.self.now c.replace_slot.new.self.now c.set_slot.new.self.now c.in-Ok.slot c.update-done.new.slot held.Taken c.update-done.result
    (of_mode c) c.reserve.ensures.now c.in-Ok.ensures.value c.in-Ok.ensures.now c.set_slot.ensures.now c.update-done.ensures
