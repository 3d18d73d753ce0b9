use Rattle.std.proofs.Common.{Ok, Err, refl, subst}
use Rattle.setl_code.specs.Code.{StoreIn}
use Rattle.setl_code.specs.Plain.{plain_code, plain_slot}
use Rattle.setl_store.specs.Standing.{variables}
use Rattle.setl_machine_control.specs.Control.{world_of, stood_for}
use Rattle.setl_machine_control.specs.Declaring.{modes_of}
use Rattle.setl_machine_control.specs.declared.end.End.{End}
use Rattle.setl_machine.specs.Gaining.{Gains}
use Rattle.setl_machine.proofs.Gaining.{store_gains}
use Rattle.setl_machine.proofs.Told.{in_body, slot_stays, stayed_store, tells_store, telling_on, telling_ends}
use Rattle.setl_machine.proofs.variables.store_telling.Goals as goal

pub stored_events-requires : goal.stored_events-requires
stored_events-requires c =
    let old = c.args.store.now in
    let new = c.store_in.new.store in
    let stayed = stayed_store (modes_of c.args.declarations.now) old new c.args.line (plain_slot (variables old.core) c.args.slot) c.in_ok-end.end c.in_ok-end.ensures.did c.in-Paused.is in
    slot_stays old new c.args.slot stayed.0 stayed.1 (in_body old c.body-body.result c.body-body.ensures.number c.body-body.ensures.variables) c.requires.there

pub returns-in_ok-stored_events-in-Paused-clause-did : goal.returns-in_ok-stored_events-in-Paused-clause-did
returns-in_ok-stored_events-in-Paused-clause-did c = λ from.
    let old = c.args.store.now in
    let new = c.store_in.new.store in
    let modes = modes_of c.args.declarations.now in
    let i = StoreIn (plain_slot (variables old.core) c.args.slot) in
    let events = c.in_ok-stored_events-in-Paused.field-0 in
    let works = c.in_ok-end.ensures.did in
    let stayed = stayed_store modes old new c.args.line (plain_slot (variables old.core) c.args.slot) c.in_ok-end.end works c.in-Paused.is in
    telling_on modes old new from from c.args.line i c.in_ok-end.end (Ok events) events c.in-Paused.is refl (λ rest. works.1 (world_of from rest)) works.0
    (tells_store old new from from c.args.line c.args.slot events.items stayed.0 stayed.1 (in_body old c.body-body.result c.body-body.ensures.number c.body-body.ensures.variables) c.in_ok-stored_events-in-Paused.ensures)

pub returns-in_default-clause-did : goal.returns-in_default-clause-did
returns-in_default-clause-did c = λ from.
    let old = c.args.store.now in
    let works = c.in_ok-end.ensures.did in
    telling_ends (modes_of c.args.declarations.now) old c.store_in.new.store from from c.args.line (StoreIn (plain_slot (variables old.core) c.args.slot)) c.in_ok-end.end (Err c.in_ok-end.end) c.in_default.not-Paused refl (λ rest. works.1 (world_of from rest))

pub returns-in_ok-stored_events-in-Paused-clause-gained : goal.returns-in_ok-stored_events-in-Paused-clause-gained
returns-in_ok-stored_events-in-Paused-clause-gained c = λ from rest rest'.
    let old = c.args.store.now in
    let new = c.store_in.new.store in
    let modes = modes_of c.args.declarations.now in
    let x = plain_slot (variables old.core) c.args.slot in
    let end = c.in_ok-end.end in
    subst (λ (e : End). Gains modes (plain_code old.code) c.args.line (StoreIn x) (stood_for old.core from rest) (stood_for new.core from rest') old.bases new.bases e) c.in-Paused.is (store_gains modes c.requires.serves.main old new c.args.line x (stood_for old.core from rest) (world_of from rest') end c.in_ok-end.ensures.gained)

pub returns-in_default-clause-gained : goal.returns-in_default-clause-gained
returns-in_default-clause-gained c = λ from rest rest'.
    let old = c.args.store.now in
    let new = c.store_in.new.store in
    let modes = modes_of c.args.declarations.now in
    let x = plain_slot (variables old.core) c.args.slot in
    let end = c.in_ok-end.end in
    store_gains modes c.requires.serves.main old new c.args.line x (stood_for old.core from rest) (world_of from rest') end c.in_ok-end.ensures.gained
