use Rattle.std.proofs.Common.{◌∙◌, sym, subst, refl, Ok, Err}
use Rattle.setl_code.specs.Plain.{plain_code, plain_instr}
use Rattle.setl_store.specs.Standing.{variables}
use Rattle.setl_machine_control.specs.Control.{stood_for}
use Rattle.setl_machine_control.specs.Declaring.{modes_of}
use Rattle.setl_machine_control.specs.declared.end.End.{End}
use Rattle.setl_machine.specs.Gaining.{Gains}
use Rattle.setl_machine.specs.Hearing.{Tells}
use Rattle.setl_machine.proofs.Told.{telling_on, telling_ends}
use Rattle.setl_machine.proofs.telling.alone_telling.Goals as goal

pub returns-in_ok-alone_events-in-Paused-clause-did : goal.returns-in_ok-alone_events-in-Paused-clause-did
returns-in_ok-alone_events-in-Paused-clause-did c =
    let old = c.args.store.now in
    let new = c.quiet_step.new.store in
    let from = c.args.control.now in
    let to = c.quiet_step.new.control in
    let modes = modes_of c.args.declarations.now in
    let i = plain_instr (variables old.core) c.args.what.now in
    let events = c.in_ok-alone_events-in-Paused.field-0 in
    let code = c.quiet_step.ensures.code c.in-Paused.is in
    telling_on modes old new from to c.args.line i c.quiet_step.result (Ok events) events c.in-Paused.is refl c.quiet_step.ensures.did code
    (λ rest rest'. subst (λ d. Tells (plain_code d) c.args.line i (stood_for old.core from rest) (stood_for new.core to rest') events.items) (c.code.ensures ∙ code)
    (c.in_ok-alone_events-in-Paused.ensures c.args.line (variables old.core) (stood_for old.core from rest) (stood_for new.core to rest') (sym c.body-body.ensures.number)))

pub returns-in_default-clause-did : goal.returns-in_default-clause-did
returns-in_default-clause-did c =
    let old = c.args.store.now in
    let new = c.quiet_step.new.store in
    let from = c.args.control.now in
    let to = c.quiet_step.new.control in
    let modes = modes_of c.args.declarations.now in
    let i = plain_instr (variables old.core) c.args.what.now in
    telling_ends modes old new from to c.args.line i c.quiet_step.result (Err c.quiet_step.result) c.in_default.not-Paused refl c.quiet_step.ensures.did

pub returns-in_ok-alone_events-in-Paused-clause-gained : goal.returns-in_ok-alone_events-in-Paused-clause-gained
returns-in_ok-alone_events-in-Paused-clause-gained c = λ rest rest'.
    let old = c.args.store.now in
    let new = c.quiet_step.new.store in
    subst (λ (e : End). Gains (modes_of c.args.declarations.now) (plain_code old.code) c.args.line (plain_instr (variables old.core) c.args.what.now) (stood_for old.core c.args.control.now rest) (stood_for new.core c.quiet_step.new.control rest') old.bases new.bases e) c.in-Paused.is (c.quiet_step.ensures.gained rest rest')
