use Rattle.std.proofs.Common.{ℕ, sym, subst}
use Rattle.std.specs.Prelude.{Option}
use Rattle.setl_value.specs.Datum.{Datum}
use Rattle.setl_modes.specs.Modes.{mode_of}
use Rattle.setl_operators_table.specs.Outcome.{Outcome}
use Rattle.setl_rep_forms.specs.FormOf.{form}
use Rattle.setl_rep_forms.specs.Stands.{stands}
use Rattle.setl_rep_updates.specs.Changed.{given_by}
use Rattle.setl_rep_updates.specs.Updates.{IsUpdate}
use Rattle.setl_store_slots.specs.declared.cells.Held.TheVariants as held
use Rattle.setl_store_slots.specs.Slots.{IsStanding}
use Rattle.setl_store_slots.specs.Updates.{IsSlotUpdate}
use Rattle.setl_store_slots.proofs.Updated.{slot_updated}
use Rattle.setl_store_slots.proofs.updating.update.Goals as goal

pub returns-in-Based : goal.returns-in-Based
returns-in-Based c =
    let gives : Option Datum → ℕ → Outcome = given_by c.args.change.now in
    let bs = c.args.bases.now in
    let cs = c.update_in.new.bases in
    let old = c.in-Based.held in
    let new = c.update_in.new.held in
    subst (λ h. IsSlotUpdate gives bs cs h (held.Based c.in-Based.mode new) c.update_in.result) (sym c.in-Based.is)
    (slot_updated c.places_are_members.ensures.kept gives bs cs c.in-Based.mode old new c.update_in.result (subst (IsStanding bs) c.in-Based.is c.requires).1
    (subst (λ m. IsUpdate (mode_of m) 0 (gives (stands bs (form old))) bs cs (form old) (form new) c.update_in.result) c.get.ensures c.update_in.ensures))
