use Rattle.std.proofs.Common.{refl, sym, subst}
use Rattle.setl_code.specs.declared.code.Instr.{Instr}
use Rattle.setl_code.specs.declared.code.Instr.TheVariants.{Truth, Undefined, Discard, Duplicate, Begin, Collect, Add, Leave}
use Rattle.setl_code.specs.Plain.{plain_code, plain_instr}
use Rattle.setl_store.specs.Standing.{variables}
use Rattle.setl_machine.specs.Working.{DoesOrLeaves}
use Rattle.setl_machine.specs.Gaining.{GainsOrLeaves}
use Rattle.setl_machine.proofs.AtOnce.{went_alone}
use Rattle.setl_machine.proofs.Gaining.{works_gain}
use Rattle.setl_machine.proofs.at_once.others_at_once.Goals as goal

pub returns-in-Truth-clause-did : goal.returns-in-Truth-clause-did
returns-in-Truth-clause-did c = λ modes.
    let s = c.args.store.now in
    let k = c.args.control.now in
    subst (λ (what : Instr). DoesOrLeaves modes s k c.args.line (plain_instr (variables s.core) what) c.push.new.store k c.went_on.result) (sym c.in-Truth.is)
    (went_alone modes s c.push.new.store k c.args.line (plain_instr (variables s.core) (Truth c.in-Truth.truth)) c.push.result c.went_on.result c.went_on.ensures (c.push.ensures c.args.line))

pub returns-in-Undefined-clause-did : goal.returns-in-Undefined-clause-did
returns-in-Undefined-clause-did c = λ modes.
    let s = c.args.store.now in
    let k = c.args.control.now in
    subst (λ (what : Instr). DoesOrLeaves modes s k c.args.line (plain_instr (variables s.core) what) c.push-in-Undefined.new.store k c.went_on-in-Undefined.result) (sym c.in-Undefined.is)
    (went_alone modes s c.push-in-Undefined.new.store k c.args.line (plain_instr (variables s.core) Undefined) c.push-in-Undefined.result c.went_on-in-Undefined.result c.went_on-in-Undefined.ensures (c.push-in-Undefined.ensures c.args.line))

pub returns-in-Discard-clause-did : goal.returns-in-Discard-clause-did
returns-in-Discard-clause-did c = λ modes.
    let s = c.args.store.now in
    let k = c.args.control.now in
    subst (λ (what : Instr). DoesOrLeaves modes s k c.args.line (plain_instr (variables s.core) what) c.discard.new.store k c.went_on-in-Discard.result) (sym c.in-Discard.is)
    (went_alone modes s c.discard.new.store k c.args.line (plain_instr (variables s.core) Discard) c.discard.result c.went_on-in-Discard.result c.went_on-in-Discard.ensures (c.discard.ensures c.args.line))

pub returns-in-Duplicate-clause-did : goal.returns-in-Duplicate-clause-did
returns-in-Duplicate-clause-did c = λ modes.
    let s = c.args.store.now in
    let k = c.args.control.now in
    subst (λ (what : Instr). DoesOrLeaves modes s k c.args.line (plain_instr (variables s.core) what) c.duplicate.new.store k c.went_on-in-Duplicate.result) (sym c.in-Duplicate.is)
    (went_alone modes s c.duplicate.new.store k c.args.line (plain_instr (variables s.core) Duplicate) c.duplicate.result c.went_on-in-Duplicate.result c.went_on-in-Duplicate.ensures (c.duplicate.ensures c.args.line))

pub returns-in-Begin-clause-did : goal.returns-in-Begin-clause-did
returns-in-Begin-clause-did c = λ modes.
    let s = c.args.store.now in
    let k = c.args.control.now in
    subst (λ (what : Instr). DoesOrLeaves modes s k c.args.line (plain_instr (variables s.core) what) c.begin_over.new.store k c.went_on-in-Begin.result) (sym c.in-Begin.is)
    (went_alone modes s c.begin_over.new.store k c.args.line (plain_instr (variables s.core) (Begin c.in-Begin.how c.in-Begin.count)) c.begin_over.result c.went_on-in-Begin.result c.went_on-in-Begin.ensures c.begin_over.ensures)

pub returns-in-Collect-clause-did : goal.returns-in-Collect-clause-did
returns-in-Collect-clause-did c = λ modes.
    let s = c.args.store.now in
    let k = c.args.control.now in
    subst (λ (what : Instr). DoesOrLeaves modes s k c.args.line (plain_instr (variables s.core) what) c.collect.new.store k c.went_on-in-Collect.result) (sym c.in-Collect.is)
    (went_alone modes s c.collect.new.store k c.args.line (plain_instr (variables s.core) (Collect c.in-Collect.what)) c.collect.result c.went_on-in-Collect.result c.went_on-in-Collect.ensures (c.collect.ensures c.args.line))

pub returns-in-Add-clause-did : goal.returns-in-Add-clause-did
returns-in-Add-clause-did c = λ modes.
    let s = c.args.store.now in
    let k = c.args.control.now in
    subst (λ (what : Instr). DoesOrLeaves modes s k c.args.line (plain_instr (variables s.core) what) c.add.new.store k c.went_on-in-Add.result) (sym c.in-Add.is)
    (went_alone modes s c.add.new.store k c.args.line (plain_instr (variables s.core) (Add c.in-Add.count)) c.add.result c.went_on-in-Add.result c.went_on-in-Add.ensures c.add.ensures)

pub returns-in-Leave-clause-did : goal.returns-in-Leave-clause-did
returns-in-Leave-clause-did c = λ modes.
    let s = c.args.store.now in
    let k = c.args.control.now in
    subst (λ (what : Instr). DoesOrLeaves modes s k c.args.line (plain_instr (variables s.core) what) c.leave.new.store k c.went_on-in-Leave.result) (sym c.in-Leave.is)
    (went_alone modes s c.leave.new.store k c.args.line (plain_instr (variables s.core) (Leave c.in-Leave.count)) c.leave.result c.went_on-in-Leave.result c.went_on-in-Leave.ensures (c.leave.ensures c.args.line))

pub returns-in-Truth-clause-gained : goal.returns-in-Truth-clause-gained
returns-in-Truth-clause-gained c = λ modes k d.
    let s = c.args.store.now in
    let new = c.push.new.store in
    subst (λ (what : Instr). GainsOrLeaves modes (plain_code s.code) c.args.line (plain_instr (variables s.core) what) k d s.bases new.bases c.went_on.result) (sym c.in-Truth.is)
    (works_gain modes s new c.args.line (plain_instr (variables s.core) (Truth c.in-Truth.truth)) k d c.push.result c.went_on.result (λ a b e f. refl) c.went_on.ensures (c.push.ensures c.args.line))

pub returns-in-Undefined-clause-gained : goal.returns-in-Undefined-clause-gained
returns-in-Undefined-clause-gained c = λ modes k d.
    let s = c.args.store.now in
    let new = c.push-in-Undefined.new.store in
    subst (λ (what : Instr). GainsOrLeaves modes (plain_code s.code) c.args.line (plain_instr (variables s.core) what) k d s.bases new.bases c.went_on-in-Undefined.result) (sym c.in-Undefined.is)
    (works_gain modes s new c.args.line (plain_instr (variables s.core) Undefined) k d c.push-in-Undefined.result c.went_on-in-Undefined.result (λ a b e f. refl) c.went_on-in-Undefined.ensures (c.push-in-Undefined.ensures c.args.line))

pub returns-in-Discard-clause-gained : goal.returns-in-Discard-clause-gained
returns-in-Discard-clause-gained c = λ modes k d.
    let s = c.args.store.now in
    let new = c.discard.new.store in
    subst (λ (what : Instr). GainsOrLeaves modes (plain_code s.code) c.args.line (plain_instr (variables s.core) what) k d s.bases new.bases c.went_on-in-Discard.result) (sym c.in-Discard.is)
    (works_gain modes s new c.args.line (plain_instr (variables s.core) Discard) k d c.discard.result c.went_on-in-Discard.result (λ a b e f. refl) c.went_on-in-Discard.ensures (c.discard.ensures c.args.line))

pub returns-in-Duplicate-clause-gained : goal.returns-in-Duplicate-clause-gained
returns-in-Duplicate-clause-gained c = λ modes k d.
    let s = c.args.store.now in
    let new = c.duplicate.new.store in
    subst (λ (what : Instr). GainsOrLeaves modes (plain_code s.code) c.args.line (plain_instr (variables s.core) what) k d s.bases new.bases c.went_on-in-Duplicate.result) (sym c.in-Duplicate.is)
    (works_gain modes s new c.args.line (plain_instr (variables s.core) Duplicate) k d c.duplicate.result c.went_on-in-Duplicate.result (λ a b e f. refl) c.went_on-in-Duplicate.ensures (c.duplicate.ensures c.args.line))

pub returns-in-Begin-clause-gained : goal.returns-in-Begin-clause-gained
returns-in-Begin-clause-gained c = λ modes k d.
    let s = c.args.store.now in
    let new = c.begin_over.new.store in
    subst (λ (what : Instr). GainsOrLeaves modes (plain_code s.code) c.args.line (plain_instr (variables s.core) what) k d s.bases new.bases c.went_on-in-Begin.result) (sym c.in-Begin.is)
    (works_gain modes s new c.args.line (plain_instr (variables s.core) (Begin c.in-Begin.how c.in-Begin.count)) k d c.begin_over.result c.went_on-in-Begin.result (λ a b e f. refl) c.went_on-in-Begin.ensures c.begin_over.ensures)

pub returns-in-Collect-clause-gained : goal.returns-in-Collect-clause-gained
returns-in-Collect-clause-gained c = λ modes k d.
    let s = c.args.store.now in
    let new = c.collect.new.store in
    subst (λ (what : Instr). GainsOrLeaves modes (plain_code s.code) c.args.line (plain_instr (variables s.core) what) k d s.bases new.bases c.went_on-in-Collect.result) (sym c.in-Collect.is)
    (works_gain modes s new c.args.line (plain_instr (variables s.core) (Collect c.in-Collect.what)) k d c.collect.result c.went_on-in-Collect.result (λ a b e f. refl) c.went_on-in-Collect.ensures (c.collect.ensures c.args.line))

pub returns-in-Add-clause-gained : goal.returns-in-Add-clause-gained
returns-in-Add-clause-gained c = λ modes k d.
    let s = c.args.store.now in
    let new = c.add.new.store in
    subst (λ (what : Instr). GainsOrLeaves modes (plain_code s.code) c.args.line (plain_instr (variables s.core) what) k d s.bases new.bases c.went_on-in-Add.result) (sym c.in-Add.is)
    (works_gain modes s new c.args.line (plain_instr (variables s.core) (Add c.in-Add.count)) k d c.add.result c.went_on-in-Add.result (λ a b e f. refl) c.went_on-in-Add.ensures c.add.ensures)

pub returns-in-Leave-clause-gained : goal.returns-in-Leave-clause-gained
returns-in-Leave-clause-gained c = λ modes k d.
    let s = c.args.store.now in
    let new = c.leave.new.store in
    subst (λ (what : Instr). GainsOrLeaves modes (plain_code s.code) c.args.line (plain_instr (variables s.core) what) k d s.bases new.bases c.went_on-in-Leave.result) (sym c.in-Leave.is)
    (works_gain modes s new c.args.line (plain_instr (variables s.core) (Leave c.in-Leave.count)) k d c.leave.result c.went_on-in-Leave.result (λ a b e f. refl) c.went_on-in-Leave.ensures (c.leave.ensures c.args.line))
