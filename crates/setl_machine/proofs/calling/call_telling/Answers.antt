use Rattle.std.proofs.Common.{◌∙◌, map, Some, ap, subst, refl, Ok, Err}
use Rattle.std.specs.Prelude.{slice_get}
use Rattle.setl_code.specs.Code.{CallBody}
use Rattle.setl_code.specs.Plain.{plain_code}
use Rattle.setl_code_events.specs.Notes.{call_notices}
use Rattle.setl_value.specs.code.DatumOf.{part}
use Rattle.setl_machine_control.specs.Declaring.{modes_of}
use Rattle.setl_machine.specs.Working.{TakesArguments}
use Rattle.setl_machine_control.specs.declared.end.End.{End}
use Rattle.setl_machine.specs.Gaining.{Gains}
use Rattle.setl_machine.proofs.Gaining.{begun_gains}
use Rattle.setl_machine.proofs.Entering.{begun}
use Rattle.setl_machine.proofs.Told.{tells_call, telling_on, telling_ends}
use Rattle.setl_machine.proofs.calling.call_telling.Goals as goal

pub returns-in_ok-call_events-in-Paused-clause-did : goal.returns-in_ok-call_events-in-Paused-clause-did
returns-in_ok-call_events-in-Paused-clause-did c =
    let old = c.args.store.now in
    let mid = c.arguments.new.store in
    let new = c.begin.new.store in
    let from = c.args.control.now in
    let to = c.begin.new.control in
    let modes = modes_of c.args.declarations.now in
    let n = c.args.body in
    let line = c.args.line in
    let vs = map part c.in-Some.values.items in
    let end = c.in_ok-end.end in
    let taken : TakesArguments n old (Some vs) mid = rw c.in-Some.is at c.in_ok-values.ensures.taken in
    let did = begun modes old mid new from to n line vs end c.requires.serves.main c.requires.serves.bare taken c.in_ok-end.ensures.did in
    let events = c.in_ok-call_events-in-Paused.field-0 in
    let told =
    c.in_ok-call_events-in-Paused.ensures
    ∙ ap (λ d. call_notices n (slice_get (plain_code d).bodies n) line (map part c.in_ok-told.told.items)) c.code.ensures
    ∙ ap (λ us. call_notices n (slice_get (plain_code new.code).bodies n) line (map part us)) (c.in_ok-told.ensures ∙ c.deref.ensures.value) in
    telling_on modes old new from to line (CallBody n) end (Ok events) events c.in-Paused.is refl did.1 did.0 (tells_call old mid new from to n line vs events.items taken did.0 told)

pub returns-in_default-2-clause-did : goal.returns-in_default-2-clause-did
returns-in_default-2-clause-did c =
    let old = c.args.store.now in
    let mid = c.arguments.new.store in
    let new = c.begin.new.store in
    let from = c.args.control.now in
    let to = c.begin.new.control in
    let modes = modes_of c.args.declarations.now in
    let n = c.args.body in
    let line = c.args.line in
    let vs = map part c.in-Some.values.items in
    let end = c.in_ok-end.end in
    let taken : TakesArguments n old (Some vs) mid = rw c.in-Some.is at c.in_ok-values.ensures.taken in
    let did = begun modes old mid new from to n line vs end c.requires.serves.main c.requires.serves.bare taken c.in_ok-end.ensures.did in
    telling_ends modes old new from to line (CallBody n) end (Err end) c.in_default-2.not-Paused refl did.1

pub returns-in_ok-call_events-in-Paused-clause-gained : goal.returns-in_ok-call_events-in-Paused-clause-gained
returns-in_ok-call_events-in-Paused-clause-gained c = λ k d.
    let old = c.args.store.now in
    let mid = c.arguments.new.store in
    let new = c.begin.new.store in
    let modes = modes_of c.args.declarations.now in
    let n = c.args.body in
    let vs = map part c.in-Some.values.items in
    let end = c.in_ok-end.end in
    let taken : TakesArguments n old (Some vs) mid = rw c.in-Some.is at c.in_ok-values.ensures.taken in
    subst (λ (e : End). Gains modes (plain_code old.code) c.args.line (CallBody n) k d old.bases new.bases e) c.in-Paused.is (begun_gains modes c.requires.serves.main old mid new c.requires.serves.bare c.args.control.now c.begin.new.control n c.args.line vs k d end taken c.in_ok-end.ensures.did)

pub returns-in_default-2-clause-gained : goal.returns-in_default-2-clause-gained
returns-in_default-2-clause-gained c = λ k d.
    let old = c.args.store.now in
    let mid = c.arguments.new.store in
    let new = c.begin.new.store in
    let modes = modes_of c.args.declarations.now in
    let n = c.args.body in
    let vs = map part c.in-Some.values.items in
    let end = c.in_ok-end.end in
    let taken : TakesArguments n old (Some vs) mid = rw c.in-Some.is at c.in_ok-values.ensures.taken in
    begun_gains modes c.requires.serves.main old mid new c.requires.serves.bare c.args.control.now c.begin.new.control n c.args.line vs k d end taken c.in_ok-end.ensures.did
