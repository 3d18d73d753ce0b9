use Rattle.std.proofs.Common.{true, Ok, Err, subst}
use Rattle.setl_code.specs.Plain.{plain_code, plain_instr}
use Rattle.setl_store.specs.Standing.{Standing, variables}
use Rattle.setl_machine_control.specs.Control.{ControlState, stood_for}
use Rattle.setl_machine_control.specs.Declaring.{modes_of}
use Rattle.setl_machine.specs.Working.{DoesOrLeaves}
use Rattle.setl_machine.specs.Gaining.{GainsOrLeaves}
use Rattle.setl_machine.proofs.AtOnce.{left_then, next_step}
use Rattle.setl_machine.proofs.RunGains.{hand_by}
use Rattle.setl_machine.proofs.quiet.one_quietly.Goals as goal

pub returns-in-Ok-true-clause-did : goal.returns-in-Ok-true-clause-did
returns-in-Ok-true-clause-did c =
    let s = c.args.store.now in
    let k = c.args.control.now in
    let n = c.at_once.new in
    let modes = modes_of c.args.declarations.now in
    let step = c.in-Some.step.now in
    let what = plain_instr (variables s.core) step.what in
    next_step modes s n.store k n.control step.line what (Ok true) c.in-Some.ensures.some (subst (λ b. DoesOrLeaves modes s k step.line what n.store n.control (Ok b)) c.in-Ok-true.field-0-test c.in-Ok-true.ensures.did)

pub returns-in-Ok-false-clause-did : goal.returns-in-Ok-false-clause-did
returns-in-Ok-false-clause-did c =
    let s = c.args.store.now in
    let k = c.args.control.now in
    let n = c.at_once.new in
    let e = c.else_quietly in
    let modes = modes_of c.args.declarations.now in
    let step = c.in-Some.step.now in
    let what = plain_instr (variables s.core) step.what in
    let left = subst (λ b. DoesOrLeaves modes s k step.line what n.store n.control (Ok b)) c.in-Ok-false.field-0-test c.in-Ok-false.ensures.did in
    next_step modes s e.new.store k e.new.control step.line what e.result c.in-Some.ensures.some
    (left_then modes s n.store e.new.store k n.control e.new.control step.line step.what e.result left.0 left.1 e.ensures.did)

pub returns-in-Err-clause-did : goal.returns-in-Err-clause-did
returns-in-Err-clause-did c =
    let s = c.args.store.now in
    let k = c.args.control.now in
    let n = c.at_once.new in
    let step = c.in-Some.step.now in
    next_step (modes_of c.args.declarations.now) s n.store k n.control step.line (plain_instr (variables s.core) step.what) (Err c.in-Err.end) c.in-Some.ensures.some c.in-Err.ensures.did

pub returns-in-Ok-true-clause-gained : goal.returns-in-Ok-true-clause-gained
returns-in-Ok-true-clause-gained c = λ rest rest'.
    let s = c.args.store.now in
    let k = stood_for s.core c.args.control.now rest in
    let n = c.at_once.new in
    let d = stood_for n.store.core n.control rest' in
    let modes = modes_of c.args.declarations.now in
    let step = c.in-Some.step.now in
    let what = plain_instr (variables s.core) step.what in
    hand_by modes (plain_code s.code) step.line what k d s.bases n.store.bases (Ok true) c.in-Some.ensures.some (subst (λ b. GainsOrLeaves modes (plain_code s.code) step.line what k d s.bases n.store.bases (Ok b)) c.in-Ok-true.field-0-test (c.in-Ok-true.ensures.gained rest rest'))

pub returns-in-Ok-false-clause-gained : goal.returns-in-Ok-false-clause-gained
returns-in-Ok-false-clause-gained c = λ rest rest'.
    let s = c.args.store.now in
    let k = c.args.control.now in
    let n = c.at_once.new in
    let e = c.else_quietly in
    let modes = modes_of c.args.declarations.now in
    let step = c.in-Some.step.now in
    let what = plain_instr (variables s.core) step.what in
    let left = subst (λ b. DoesOrLeaves modes s k step.line what n.store n.control (Ok b)) c.in-Ok-false.field-0-test c.in-Ok-false.ensures.did in
    let G : Standing → ControlState → Type 0 = λ m via. GainsOrLeaves modes (plain_code m.code) step.line (plain_instr (variables m.core) step.what) (stood_for m.core via rest) (stood_for e.new.store.core e.new.control rest') m.bases e.new.store.bases e.result in
    hand_by modes (plain_code s.code) step.line what (stood_for s.core k rest) (stood_for e.new.store.core e.new.control rest') s.bases e.new.store.bases e.result c.in-Some.ensures.some
    (subst (G s) left.1 (subst (λ m. G m n.control) left.0 (e.ensures.gained rest rest')))

pub returns-in-Err-clause-gained : goal.returns-in-Err-clause-gained
returns-in-Err-clause-gained c = λ rest rest'.
    let s = c.args.store.now in
    let n = c.at_once.new in
    let step = c.in-Some.step.now in
    hand_by (modes_of c.args.declarations.now) (plain_code s.code) step.line (plain_instr (variables s.core) step.what) (stood_for s.core c.args.control.now rest) (stood_for n.store.core n.control rest') s.bases n.store.bases (Err c.in-Err.end) c.in-Some.ensures.some (c.in-Err.ensures.gained rest rest')
