use Rattle.std.proofs.Common.{◌∙◌, ◌∷◌, false, refl, ap, sym, subst, Ok, Err, Some}
use Rattle.std.specs.Prelude.{map, option_map}
use Rattle.setl_value.specs.code.DatumOf.{part}
use Rattle.setl_code.specs.Code.{TakingOut}
use Rattle.setl_code.specs.CodeCore.{Result as Holds}
use Rattle.setl_code.specs.Plain.{plain_slot}
use Rattle.setl_store.specs.Standing.{variables}
use Rattle.setl_machine_updates.specs.Selectors.{selected}
use Rattle.setl_machine_updates.specs.Takes.{Takes}
use Rattle.setl_code_events.specs.Told.{value_held}
use Rattle.setl_machine_variables.specs.Altered.{stores_new, TakesHeld}
use Rattle.setl_machine_control.specs.Declaring.{Keeps}
use Rattle.setl_machine_variables.proofs.Taking.{took_stores, no_pause}
use Rattle.setl_machine_variables.proofs.Parts.{taken_sure}
use Rattle.setl_machine_variables.proofs.Altered.{pushed_slot, held_slot_of, taken_held, taken_pushed, took_out, takes_not, declared_pushed, declared_gone}
use Rattle.setl_machine_variables.proofs.Gaining.{hand_gains}
use Rattle.setl_machine_variables.proofs.altering.take_out.Goals as goal

pub end_update-requires-clause-there : goal.end_update-requires-clause-there
end_update-requires-clause-there c =
    let old = c.args.store.now in
    let takes : TakesHeld (plain_slot (variables old.core) c.args.target.slot) old (Some c.in-Some.whole) c.take_held.new.store = rw c.in-Some.is at c.in_ok-whole.ensures in
    pushed_slot old c.take_held.new.store c.push.new.self c.args.target.slot c.in-Some.whole c.in-Ok.taken.value takes c.in_ok-push-in-Ok.ensures c.requires.there

pub end_update-requires-in-Err-clause-there : goal.end_update-requires-in-Err-clause-there
end_update-requires-in-Err-clause-there c =
    let old = c.args.store.now in
    let takes : TakesHeld (plain_slot (variables old.core) c.args.target.slot) old (Some c.in-Some.whole) c.take_held.new.store = rw c.in-Some.is at c.in_ok-whole.ensures in
    held_slot_of old c.take_held.new.store c.args.target.slot c.in-Some.whole takes c.requires.there

pub returns-in_ok-end-in-Ok-clause-did : goal.returns-in_ok-end-in-Ok-clause-did
returns-in_ok-end-in-Ok-clause-did c = λ modes declared fitting.
    let old = c.args.store.now in
    let gone = c.take_held.new.store in
    let put = c.push.new.self in
    let new = c.end_update.new.store in
    let from = c.args.control.now in
    let to = c.end_update.new.control in
    let at = map selected c.args.at.now in
    let taken = c.in-Ok.taken in
    let whole = c.take_at.new.whole in
    let takes : TakesHeld (plain_slot (variables old.core) c.args.target.slot) old (Some c.in-Some.whole) gone = rw c.in-Some.is at c.in_ok-whole.ensures in
    let told : Takes c.args.end at (part c.in-Some.whole) c.turns.result (part whole) (Ok taken) = c.in-Ok.ensures.taken in
    let took : Takes c.args.end at (part c.in-Some.whole) from.turns (part whole) (Ok taken) = subst (λ n. Takes c.args.end at (part c.in-Some.whole) n (part whole) (Ok taken)) c.turns.ensures told in
    let kept = option_map part c.in_ok-kept.kept in
    let x = plain_slot (variables old.core) c.args.target.slot in
    let laws = c.learn_laws.ensures in
    let keeps : Keeps modes x (part c.in-Some.whole) (part whole) kept =
    c.in_ok-kept.ensures modes x (part whole)
    (λ sure. taken_sure laws.parts laws.held modes old gone c.args.target.slot c.args.end c.args.target.declared at c.in-Some.whole whole from.turns taken declared fitting takes (sym c.decides_taken-sure.ensures ∙ sure) laws.formed took) in
    took_out modes old gone put new from to c.args.line c.args.target.slot at c.args.end c.in-Some.whole whole kept (option_map part c.tested_if-tested.result) taken c.in_ok-end-in-Ok.end keeps c.tested_if-tested.ensures takes took c.in_ok-push-in-Ok.ensures
    (c.in_ok-end-in-Ok.ensures.did modes (declared_pushed modes old gone put c.args.target.slot c.in-Some.whole taken.value c.args.target.declared takes c.in_ok-push-in-Ok.ensures declared))

pub returns-in_ok-end-in-Err-clause-did : goal.returns-in_ok-end-in-Err-clause-did
returns-in_ok-end-in-Err-clause-did c = λ modes declared fitting.
    let old = c.args.store.now in
    let gone = c.take_held.new.store in
    let new = c.end_update-in-Err.new.store in
    let from = c.args.control.now in
    let to = c.end_update-in-Err.new.control in
    let at = map selected c.args.at.now in
    let fault = c.in-Err.fault in
    let whole = c.take_at.new.whole in
    let takes : TakesHeld (plain_slot (variables old.core) c.args.target.slot) old (Some c.in-Some.whole) gone = rw c.in-Some.is at c.in_ok-whole.ensures in
    let told : Takes c.args.end at (part c.in-Some.whole) c.turns.result (part whole) (Err fault) = c.in-Err.ensures.taken in
    let took : Takes c.args.end at (part c.in-Some.whole) from.turns (part whole) (Err fault) = subst (λ n. Takes c.args.end at (part c.in-Some.whole) n (part whole) (Err fault)) c.turns.ensures told in
    let kept = option_map part c.in_ok-kept.kept in
    takes_not modes old gone new from to c.args.line c.args.target.slot at c.args.end c.in-Some.whole whole kept fault c.in_ok-end-in-Err.end takes took c.in-Err.ensures.refused
    (c.in_ok-end-in-Err.ensures.did modes (declared_gone modes old gone c.args.target.slot c.in-Some.whole c.args.target.declared takes declared))

pub returns-in_ok-end-in-Ok-clause-stored : goal.returns-in_ok-end-in-Ok-clause-stored
returns-in_ok-end-in-Ok-clause-stored c = λ modes declared e.
    let old = c.args.store.now in
    let from = c.args.control.now in
    let at = map selected c.args.at.now in
    let taken = c.in-Ok.taken in
    let whole = c.take_at.new.whole in
    let takes : TakesHeld (plain_slot (variables old.core) c.args.target.slot) old (Some c.in-Some.whole) c.take_held.new.store = rw c.in-Some.is at c.in_ok-whole.ensures in
    let told : Takes c.args.end at (part c.in-Some.whole) c.turns.result (part whole) (Ok taken) = c.in-Ok.ensures.taken in
    let took : Takes c.args.end at (part c.in-Some.whole) from.turns (part whole) (Ok taken) = subst (λ n. Takes c.args.end at (part c.in-Some.whole) n (part whole) (Ok taken)) c.turns.ensures told in
    took_stores c.args.end at (part c.in-Some.whole) (part whole) from.turns taken took ∙ ap (λ h. stores_new (TakingOut c.args.end) (value_held h) at from.turns) (sym takes.0)

pub returns-in_ok-end-in-Err-clause-stored : goal.returns-in_ok-end-in-Err-clause-stored
returns-in_ok-end-in-Err-clause-stored c = λ modes declared e.
    let old = c.args.store.now in
    let gone = c.take_held.new.store in
    let takes : TakesHeld (plain_slot (variables old.core) c.args.target.slot) old (Some c.in-Some.whole) gone = rw c.in-Some.is at c.in_ok-whole.ensures in
    absurd (no_pause c.in-Err.fault c.args.line c.in_ok-end-in-Err.end (c.in_ok-end-in-Err.ensures.did modes (declared_gone modes old gone c.args.target.slot c.in-Some.whole c.args.target.declared takes declared)).0 e)

pub returns-in_ok-end-in-Ok-clause-gained : goal.returns-in_ok-end-in-Ok-clause-gained
returns-in_ok-end-in-Ok-clause-gained c = λ modes declared.
    let old = c.args.store.now in
    let gone = c.take_held.new.store in
    let put = c.push.new.self in
    let slot = c.args.target.slot in
    let d = c.args.target.declared in
    let taken = c.in-Ok.taken in
    let takes : TakesHeld (plain_slot (variables old.core) slot) old (Some c.in-Some.whole) gone = rw c.in-Some.is at c.in_ok-whole.ensures in
    hand_gains modes old slot (Holds (part taken.value) ∷ old.core.now.operands) (part c.in-Some.whole) (part c.take_at.new.whole) (option_map part c.tested_if-tested.result) put c.end_update.new.store c.args.control.now c.end_update.new.control c.args.line (Ok taken.left) taken.stored
    c.in_ok-end-in-Ok.end d (taken_pushed old slot c.in-Some.whole taken.value gone put takes c.in_ok-push-in-Ok.ensures) declared
    (c.in_ok-end-in-Ok.ensures.did modes (declared_pushed modes old gone put slot c.in-Some.whole taken.value d takes c.in_ok-push-in-Ok.ensures declared)) c.in_ok-end-in-Ok.ensures.gained

pub returns-in_ok-end-in-Err-clause-gained : goal.returns-in_ok-end-in-Err-clause-gained
returns-in_ok-end-in-Err-clause-gained c = λ modes declared.
    let old = c.args.store.now in
    let gone = c.take_held.new.store in
    let slot = c.args.target.slot in
    let d = c.args.target.declared in
    let takes : TakesHeld (plain_slot (variables old.core) slot) old (Some c.in-Some.whole) gone = rw c.in-Some.is at c.in_ok-whole.ensures in
    hand_gains modes old slot old.core.now.operands (part c.in-Some.whole) (part c.take_at.new.whole) (option_map part c.in_ok-kept.kept) gone c.end_update-in-Err.new.store c.args.control.now c.end_update-in-Err.new.control c.args.line (Err c.in-Err.fault) false
    c.in_ok-end-in-Err.end d (taken_held old old slot c.in-Some.whole gone refl takes) declared
    (c.in_ok-end-in-Err.ensures.did modes (declared_gone modes old gone slot c.in-Some.whole d takes declared)) c.in_ok-end-in-Err.ensures.gained
