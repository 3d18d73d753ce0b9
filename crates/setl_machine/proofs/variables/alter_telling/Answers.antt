use Rattle.std.proofs.Common.{◌∙◌, [], map, ap, sym, subst, refl, Ok, Err}
use Rattle.std.specs.Prelude.{cond}
use Rattle.setl_code.specs.Code.{Alter}
use Rattle.setl_code.specs.Plain.{plain_code, plain_slot, plain_bracket, plain_alteration}
use Rattle.setl_store.specs.Standing.{variables}
use Rattle.setl_code_events.specs.Told.{store_told}
use Rattle.setl_watch.specs.Notices.{noticed}
use Rattle.setl_watch.specs.code.NoticeOf.{notice_of}
use Rattle.setl_machine_control.specs.Control.{stood_for}
use Rattle.setl_machine_control.specs.Declaring.{modes_of}
use Rattle.setl_machine_control.specs.declared.end.End.{End}
use Rattle.setl_machine.specs.Gaining.{Gains}
use Rattle.setl_machine.proofs.Gaining.{altered_gains}
use Rattle.setl_machine.proofs.Told.{in_body, slot_stays, stayed_alter, tells_store, tells_alter, telling_on, telling_ends}
use Rattle.setl_machine.proofs.variables.alter_telling.Goals as goal

pub stored_events-requires : goal.stored_events-requires
stored_events-requires c =
    let old = c.args.store.now in
    let new = c.alter.new.store in
    let stayed = stayed_alter (modes_of c.args.declarations.now) old new c.args.control.now c.alter.new.control c.args.line (plain_alteration c.args.what) (plain_slot (variables old.core) c.args.slot) (map plain_bracket c.args.brackets.now) c.in_ok-updated.updated.end c.in_ok-updated.ensures.did c.in-Paused.is in
    slot_stays old new c.args.slot stayed.0 stayed.1 (in_body old c.body-body.result c.body-body.ensures.number c.body-body.ensures.variables) c.requires.there

pub returns-in_ok-stored_events-in-Paused-clause-did : goal.returns-in_ok-stored_events-in-Paused-clause-did
returns-in_ok-stored_events-in-Paused-clause-did c =
    let old = c.args.store.now in
    let new = c.alter.new.store in
    let from = c.args.control.now in
    let to = c.alter.new.control in
    let modes = modes_of c.args.declarations.now in
    let a = plain_alteration c.args.what in
    let x = plain_slot (variables old.core) c.args.slot in
    let bs = map plain_bracket c.args.brackets.now in
    let u = c.in_ok-updated.updated in
    let did = c.in_ok-updated.ensures.did in
    let events = c.in_ok-stored_events-in-Paused.field-0 in
    let stayed = stayed_alter modes old new from to c.args.line a x bs u.end did c.in-Paused.is in
    telling_on modes old new from to c.args.line (Alter a x bs) u.end (Ok events) events c.in-Paused.is refl did.1 did.0
    (tells_alter old new from to c.args.line a x bs u.stored events.items (c.in_ok-updated.ensures.stored c.in-Paused.is)
    (λ rest rest'. tells_store old new from to c.args.line c.args.slot events.items stayed.0 stayed.1 (in_body old c.body-body.result c.body-body.ensures.number c.body-body.ensures.variables) c.in_ok-stored_events-in-Paused.ensures rest rest' ∙ ap (λ b. map noticed (cond b (store_told c.args.line x (stood_for new.core to rest')) [])) (sym c.if-updated.true)))

pub returns-else-updated-clause-did : goal.returns-else-updated-clause-did
returns-else-updated-clause-did c =
    let old = c.args.store.now in
    let new = c.alter.new.store in
    let from = c.args.control.now in
    let to = c.alter.new.control in
    let modes = modes_of c.args.declarations.now in
    let a = plain_alteration c.args.what in
    let x = plain_slot (variables old.core) c.args.slot in
    let bs = map plain_bracket c.args.brackets.now in
    let u = c.in_ok-updated.updated in
    let did = c.in_ok-updated.ensures.did in
    telling_on modes old new from to c.args.line (Alter a x bs) u.end (Ok c.new.result) c.new.result c.in-Paused.is refl did.1 did.0
    (tells_alter old new from to c.args.line a x bs u.stored c.new.result.items (c.in_ok-updated.ensures.stored c.in-Paused.is)
    (λ rest rest'. ap (map notice_of) c.new.ensures.items ∙ ap (λ b. map noticed (cond b (store_told c.args.line x (stood_for new.core to rest')) [])) (sym c.if-updated.false)))

pub returns-in_default-clause-did : goal.returns-in_default-clause-did
returns-in_default-clause-did c =
    let old = c.args.store.now in
    let new = c.alter.new.store in
    let from = c.args.control.now in
    let to = c.alter.new.control in
    let modes = modes_of c.args.declarations.now in
    let a = plain_alteration c.args.what in
    let x = plain_slot (variables old.core) c.args.slot in
    let bs = map plain_bracket c.args.brackets.now in
    let u = c.in_ok-updated.updated in
    let did = c.in_ok-updated.ensures.did in
    telling_ends modes old new from to c.args.line (Alter a x bs) u.end (Err u.end) c.in_default.not-Paused refl did.1

pub returns-in_ok-stored_events-in-Paused-clause-gained : goal.returns-in_ok-stored_events-in-Paused-clause-gained
returns-in_ok-stored_events-in-Paused-clause-gained c = λ rest rest'.
    let old = c.args.store.now in
    let new = c.alter.new.store in
    let from = c.args.control.now in
    let to = c.alter.new.control in
    let modes = modes_of c.args.declarations.now in
    let a = plain_alteration c.args.what in
    let x = plain_slot (variables old.core) c.args.slot in
    let bs = map plain_bracket c.args.brackets.now in
    let u = c.in_ok-updated.updated in
    subst (λ (e : End). Gains modes (plain_code old.code) c.args.line (Alter a x bs) (stood_for old.core from rest) (stood_for new.core to rest') old.bases new.bases e) c.in-Paused.is (altered_gains modes c.requires.serves.main old new from to c.args.line a x bs u.stored rest rest' u.end c.in_ok-updated.ensures.stored c.in_ok-updated.ensures.gained)

pub returns-else-updated-clause-gained : goal.returns-else-updated-clause-gained
returns-else-updated-clause-gained c = λ rest rest'.
    let old = c.args.store.now in
    let new = c.alter.new.store in
    let from = c.args.control.now in
    let to = c.alter.new.control in
    let modes = modes_of c.args.declarations.now in
    let a = plain_alteration c.args.what in
    let x = plain_slot (variables old.core) c.args.slot in
    let bs = map plain_bracket c.args.brackets.now in
    let u = c.in_ok-updated.updated in
    subst (λ (e : End). Gains modes (plain_code old.code) c.args.line (Alter a x bs) (stood_for old.core from rest) (stood_for new.core to rest') old.bases new.bases e) c.in-Paused.is (altered_gains modes c.requires.serves.main old new from to c.args.line a x bs u.stored rest rest' u.end c.in_ok-updated.ensures.stored c.in_ok-updated.ensures.gained)

pub returns-in_default-clause-gained : goal.returns-in_default-clause-gained
returns-in_default-clause-gained c = λ rest rest'.
    let old = c.args.store.now in
    let new = c.alter.new.store in
    let from = c.args.control.now in
    let to = c.alter.new.control in
    let modes = modes_of c.args.declarations.now in
    let a = plain_alteration c.args.what in
    let x = plain_slot (variables old.core) c.args.slot in
    let bs = map plain_bracket c.args.brackets.now in
    let u = c.in_ok-updated.updated in
    altered_gains modes c.requires.serves.main old new from to c.args.line a x bs u.stored rest rest' u.end c.in_ok-updated.ensures.stored c.in_ok-updated.ensures.gained
