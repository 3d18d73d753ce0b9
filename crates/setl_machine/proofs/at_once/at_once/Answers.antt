use Rattle.std.proofs.Common.{◌≡◌, ◌∙◌, map, refl, Ok, sym, subst}
use Rattle.setl_code.specs.declared.code.Instr.{Instr}
use Rattle.setl_code.specs.declared.code.Instr.TheVariants.{Integer, Load, Take, Store, Decide, TestTruth, Unless, Jump, Round, Operate, Next, Call, Return}
use Rattle.std.specs.Prelude.{slice_get}
use Rattle.setl_code.specs.Code.{Alter}
use Rattle.setl_code.specs.Plain.{plain_alteration, plain_bracket, plain_code, plain_instr, plain_slot}
use Rattle.setl_store.specs.Standing.{variables}
use Rattle.setl_machine_control.specs.Declaring.{modes_of}
use Rattle.setl_machine_control.specs.Control.{stood_for, world_of}
use Rattle.setl_machine.specs.Gaining.{GainsOrLeaves}
use Rattle.setl_machine.specs.Working.{DoesOrLeaves}
use Rattle.setl_machine.proofs.Gaining.{at_main, call_told_same, does_stay, return_same, stay_gains, stored_gain, works_gain}
use Rattle.setl_machine.proofs.AtOnce.{went, went_alone, stored_or_left}
use Rattle.setl_machine.proofs.Working.{does_untested}
use Rattle.setl_machine.proofs.at_once.at_once.Goals as goal

pub returns-in-Integer-clause-did : goal.returns-in-Integer-clause-did
returns-in-Integer-clause-did c =
    let s = c.args.store.now in
    let modes = modes_of c.args.declarations.now in
    let k = c.args.control.now in
    subst (λ (what : Instr). DoesOrLeaves modes s k c.args.line (plain_instr (variables s.core) what) c.push_integer.new.store k c.went_on.result) (sym c.in-Integer.is)
    (went_alone modes s c.push_integer.new.store k c.args.line (plain_instr (variables s.core) (Integer c.in-Integer.n)) c.push_integer.result c.went_on.result c.went_on.ensures (c.push_integer.ensures c.args.line))

pub returns-in-Load-clause-did : goal.returns-in-Load-clause-did
returns-in-Load-clause-did c =
    let s = c.args.store.now in
    let modes = modes_of c.args.declarations.now in
    let k = c.args.control.now in
    subst (λ (what : Instr). DoesOrLeaves modes s k c.args.line (plain_instr (variables s.core) what) c.load.new.store k c.went_on-in-Load.result) (sym c.in-Load.is)
    (went_alone modes s c.load.new.store k c.args.line (plain_instr (variables s.core) (Load c.in-Load.slot)) c.load.result c.went_on-in-Load.result c.went_on-in-Load.ensures (c.load.ensures c.args.line))

pub returns-in-Take-clause-did : goal.returns-in-Take-clause-did
returns-in-Take-clause-did c =
    let s = c.args.store.now in
    let modes = modes_of c.args.declarations.now in
    let k = c.args.control.now in
    subst (λ (what : Instr). DoesOrLeaves modes s k c.args.line (plain_instr (variables s.core) what) c.take.new.store k c.went_on-in-Take.result) (sym c.in-Take.is)
    (went_alone modes s c.take.new.store k c.args.line (plain_instr (variables s.core) (Take c.in-Take.slot)) c.take.result c.went_on-in-Take.result c.went_on-in-Take.ensures (c.take.ensures c.args.line))

pub returns-in_ok-store_at_once-in-Store-clause-did : goal.returns-in_ok-store_at_once-in-Store-clause-did
returns-in_ok-store_at_once-in-Store-clause-did c =
    let s = c.args.store.now in
    let modes = modes_of c.args.declarations.now in
    let k = c.args.control.now in
    let done = c.in_ok-store_at_once-in-Store.field-0 in
    subst (λ (what : Instr). DoesOrLeaves modes s k c.args.line (plain_instr (variables s.core) what) c.store_at_once.new.store k (Ok done)) (sym c.in-Store.is)
    (stored_or_left modes s c.store_at_once.new.store k c.args.line (plain_instr (variables s.core) (Store c.in-Store.slot)) done (c.in_ok-store_at_once-in-Store.ensures.did c.args.line))

pub returns-in-Unless-clause-did : goal.returns-in-Unless-clause-did
returns-in-Unless-clause-did c =
    let s = c.args.store.now in
    let modes = modes_of c.args.declarations.now in
    let k = c.args.control.now in
    subst (λ (what : Instr). DoesOrLeaves modes s k c.args.line (plain_instr (variables s.core) what) c.unless.new.store k c.went_on-in-Unless.result) (sym c.in-Unless.is)
    (went_alone modes s c.unless.new.store k c.args.line (plain_instr (variables s.core) (Unless c.in-Unless.to)) c.unless.result c.went_on-in-Unless.result c.went_on-in-Unless.ensures (c.unless.ensures))

pub returns-in-Jump-clause-did : goal.returns-in-Jump-clause-did
returns-in-Jump-clause-did c =
    let s = c.args.store.now in
    let modes = modes_of c.args.declarations.now in
    let k = c.args.control.now in
    subst (λ (what : Instr). DoesOrLeaves modes s k c.args.line (plain_instr (variables s.core) what) c.jump.new.store k c.went_on-in-Jump.result) (sym c.in-Jump.is)
    (went_alone modes s c.jump.new.store k c.args.line (plain_instr (variables s.core) (Jump c.in-Jump.to)) c.jump.result c.went_on-in-Jump.result c.went_on-in-Jump.ensures (c.jump.ensures.did c.args.line))

pub returns-in-Operate-clause-did : goal.returns-in-Operate-clause-did
returns-in-Operate-clause-did c =
    let s = c.args.store.now in
    let modes = modes_of c.args.declarations.now in
    let k = c.args.control.now in
    subst (λ (what : Instr). DoesOrLeaves modes s k c.args.line (plain_instr (variables s.core) what) c.operate_at_once.new.store c.operate_at_once.new.control c.operate_at_once.result) (sym c.in-Operate.is) (c.operate_at_once.ensures.did modes)

pub returns-in-Next-clause-did : goal.returns-in-Next-clause-did
returns-in-Next-clause-did c =
    let s = c.args.store.now in
    let modes = modes_of c.args.declarations.now in
    let k = c.args.control.now in
    subst (λ (what : Instr). DoesOrLeaves modes s k c.args.line (plain_instr (variables s.core) what) c.next_at_once.new.store c.next_at_once.new.control c.next_at_once.result) (sym c.in-Next.is) (c.next_at_once.ensures.did modes)

pub returns-in-Decide-clause-did : goal.returns-in-Decide-clause-did
returns-in-Decide-clause-did c =
    let s = c.args.store.now in
    let modes = modes_of c.args.declarations.now in
    let k = c.args.control.now in
    subst (λ (what : Instr). DoesOrLeaves modes s k c.args.line (plain_instr (variables s.core) what) c.decide.new.store k c.went_on-in-Decide.result) (sym c.in-Decide.is)
    (went_alone modes s c.decide.new.store k c.args.line (plain_instr (variables s.core) (Decide c.in-Decide.connective c.in-Decide.to)) c.decide.result c.went_on-in-Decide.result c.went_on-in-Decide.ensures (c.decide.ensures))

pub returns-in-TestTruth-clause-did : goal.returns-in-TestTruth-clause-did
returns-in-TestTruth-clause-did c =
    let s = c.args.store.now in
    let modes = modes_of c.args.declarations.now in
    let k = c.args.control.now in
    subst (λ (what : Instr). DoesOrLeaves modes s k c.args.line (plain_instr (variables s.core) what) c.test.new.store k c.went_on-in-TestTruth.result) (sym c.in-TestTruth.is)
    (went_alone modes s c.test.new.store k c.args.line (plain_instr (variables s.core) TestTruth) c.test.result c.went_on-in-TestTruth.result c.went_on-in-TestTruth.ensures (c.test.ensures.did))

pub returns-in-Round-clause-did : goal.returns-in-Round-clause-did
returns-in-Round-clause-did c =
    let s = c.args.store.now in
    let modes = modes_of c.args.declarations.now in
    let k = c.args.control.now in
    subst (λ (what : Instr). DoesOrLeaves modes s k c.args.line (plain_instr (variables s.core) what) c.round.new.store c.round.new.control c.went_on-in-Round.result) (sym c.in-Round.is)
    (went modes s c.round.new.store k c.round.new.control c.args.line (plain_instr (variables s.core) Round) c.round.result c.went_on-in-Round.result c.went_on-in-Round.ensures
    (does_untested modes s c.round.new.store k c.round.new.control c.args.line (plain_instr (variables s.core) Round) c.round.result (c.round.ensures.did c.args.line)))

pub returns-in-Call-clause-did : goal.returns-in-Call-clause-did
returns-in-Call-clause-did c =
    let s = c.args.store.now in
    let modes = modes_of c.args.declarations.now in
    let k = c.args.control.now in
    subst (λ (what : Instr). DoesOrLeaves modes s k c.args.line (plain_instr (variables s.core) what) c.call_at_once.new.store c.call_at_once.new.control c.call_at_once.result) (sym c.in-Call.is) (c.call_at_once.ensures.did modes c.requires.serves.main c.requires.serves.bare)

pub returns-in-Return-clause-did : goal.returns-in-Return-clause-did
returns-in-Return-clause-did c =
    let s = c.args.store.now in
    let modes = modes_of c.args.declarations.now in
    let k = c.args.control.now in
    subst (λ (what : Instr). DoesOrLeaves modes s k c.args.line (plain_instr (variables s.core) what) c.return_at_once.new.store k c.return_at_once.result) (sym c.in-Return.is) (c.return_at_once.ensures.did modes k c.args.line)

pub returns-in_default : goal.returns-in_default
returns-in_default c = record {
  did = c.others_at_once.ensures.did (modes_of c.args.declarations.now);
  gained = λ rest rest'. c.others_at_once.ensures.gained (modes_of c.args.declarations.now) (stood_for c.args.store.now.core c.args.control.now rest) (stood_for c.others_at_once.new.store.core c.args.control.now rest');
  reader = refl;
}

pub returns-in-Integer-clause-gained : goal.returns-in-Integer-clause-gained
returns-in-Integer-clause-gained c = λ rest rest'.
    let s = c.args.store.now in
    let new = c.push_integer.new.store in
    let modes = modes_of c.args.declarations.now in
    let from = c.args.control.now in
    subst (λ (what : Instr). GainsOrLeaves modes (plain_code s.code) c.args.line (plain_instr (variables s.core) what) (stood_for s.core from rest) (stood_for new.core from rest') s.bases new.bases c.went_on.result) (sym c.in-Integer.is)
    (works_gain modes s new c.args.line (plain_instr (variables s.core) (Integer c.in-Integer.n)) (stood_for s.core from rest) (stood_for new.core from rest') c.push_integer.result c.went_on.result (λ a b e f. refl) c.went_on.ensures (c.push_integer.ensures c.args.line))

pub returns-in-Load-clause-gained : goal.returns-in-Load-clause-gained
returns-in-Load-clause-gained c = λ rest rest'.
    let s = c.args.store.now in
    let new = c.load.new.store in
    let modes = modes_of c.args.declarations.now in
    let from = c.args.control.now in
    subst (λ (what : Instr). GainsOrLeaves modes (plain_code s.code) c.args.line (plain_instr (variables s.core) what) (stood_for s.core from rest) (stood_for new.core from rest') s.bases new.bases c.went_on-in-Load.result) (sym c.in-Load.is)
    (works_gain modes s new c.args.line (plain_instr (variables s.core) (Load c.in-Load.slot)) (stood_for s.core from rest) (stood_for new.core from rest') c.load.result c.went_on-in-Load.result (λ a b e f. refl) c.went_on-in-Load.ensures (c.load.ensures c.args.line))

pub returns-in-Take-clause-gained : goal.returns-in-Take-clause-gained
returns-in-Take-clause-gained c = λ rest rest'.
    let s = c.args.store.now in
    let new = c.take.new.store in
    let modes = modes_of c.args.declarations.now in
    let from = c.args.control.now in
    subst (λ (what : Instr). GainsOrLeaves modes (plain_code s.code) c.args.line (plain_instr (variables s.core) what) (stood_for s.core from rest) (stood_for new.core from rest') s.bases new.bases c.went_on-in-Take.result) (sym c.in-Take.is)
    (works_gain modes s new c.args.line (plain_instr (variables s.core) (Take c.in-Take.slot)) (stood_for s.core from rest) (stood_for new.core from rest') c.take.result c.went_on-in-Take.result (λ a b e f. refl) c.went_on-in-Take.ensures (c.take.ensures c.args.line))

pub returns-in-Unless-clause-gained : goal.returns-in-Unless-clause-gained
returns-in-Unless-clause-gained c = λ rest rest'.
    let s = c.args.store.now in
    let new = c.unless.new.store in
    let modes = modes_of c.args.declarations.now in
    let from = c.args.control.now in
    subst (λ (what : Instr). GainsOrLeaves modes (plain_code s.code) c.args.line (plain_instr (variables s.core) what) (stood_for s.core from rest) (stood_for new.core from rest') s.bases new.bases c.went_on-in-Unless.result) (sym c.in-Unless.is)
    (works_gain modes s new c.args.line (plain_instr (variables s.core) (Unless c.in-Unless.to)) (stood_for s.core from rest) (stood_for new.core from rest') c.unless.result c.went_on-in-Unless.result (λ a b e f. refl) c.went_on-in-Unless.ensures c.unless.ensures)

pub returns-in-Jump-clause-gained : goal.returns-in-Jump-clause-gained
returns-in-Jump-clause-gained c = λ rest rest'.
    let s = c.args.store.now in
    let new = c.jump.new.store in
    let modes = modes_of c.args.declarations.now in
    let from = c.args.control.now in
    subst (λ (what : Instr). GainsOrLeaves modes (plain_code s.code) c.args.line (plain_instr (variables s.core) what) (stood_for s.core from rest) (stood_for new.core from rest') s.bases new.bases c.went_on-in-Jump.result) (sym c.in-Jump.is)
    (works_gain modes s new c.args.line (plain_instr (variables s.core) (Jump c.in-Jump.to)) (stood_for s.core from rest) (stood_for new.core from rest') c.jump.result c.went_on-in-Jump.result (λ a b e f. refl) c.went_on-in-Jump.ensures (c.jump.ensures.did c.args.line))

pub returns-in-Decide-clause-gained : goal.returns-in-Decide-clause-gained
returns-in-Decide-clause-gained c = λ rest rest'.
    let s = c.args.store.now in
    let new = c.decide.new.store in
    let modes = modes_of c.args.declarations.now in
    let from = c.args.control.now in
    subst (λ (what : Instr). GainsOrLeaves modes (plain_code s.code) c.args.line (plain_instr (variables s.core) what) (stood_for s.core from rest) (stood_for new.core from rest') s.bases new.bases c.went_on-in-Decide.result) (sym c.in-Decide.is)
    (works_gain modes s new c.args.line (plain_instr (variables s.core) (Decide c.in-Decide.connective c.in-Decide.to)) (stood_for s.core from rest) (stood_for new.core from rest') c.decide.result c.went_on-in-Decide.result (λ a b e f. refl) c.went_on-in-Decide.ensures c.decide.ensures)

pub returns-in-TestTruth-clause-gained : goal.returns-in-TestTruth-clause-gained
returns-in-TestTruth-clause-gained c = λ rest rest'.
    let s = c.args.store.now in
    let new = c.test.new.store in
    let modes = modes_of c.args.declarations.now in
    let from = c.args.control.now in
    subst (λ (what : Instr). GainsOrLeaves modes (plain_code s.code) c.args.line (plain_instr (variables s.core) what) (stood_for s.core from rest) (stood_for new.core from rest') s.bases new.bases c.went_on-in-TestTruth.result) (sym c.in-TestTruth.is)
    (works_gain modes s new c.args.line (plain_instr (variables s.core) TestTruth) (stood_for s.core from rest) (stood_for new.core from rest') c.test.result c.went_on-in-TestTruth.result (λ a b e f. refl) c.went_on-in-TestTruth.ensures c.test.ensures.did)

pub returns-in-Operate-clause-gained : goal.returns-in-Operate-clause-gained
returns-in-Operate-clause-gained c = λ rest rest'.
    let s = c.args.store.now in
    let new = c.operate_at_once.new.store in
    let modes = modes_of c.args.declarations.now in
    let k = stood_for s.core c.args.control.now rest in
    let d = stood_for new.core c.operate_at_once.new.control rest' in
    subst (λ (what : Instr). GainsOrLeaves modes (plain_code s.code) c.args.line (plain_instr (variables s.core) what) k d s.bases new.bases c.operate_at_once.result) (sym c.in-Operate.is)
    (stay_gains modes (plain_code s.code) c.args.line (plain_instr (variables s.core) (Operate c.in-Operate.operator c.in-Operate.count)) k d s.bases new.bases c.operate_at_once.result refl c.operate_at_once.ensures.bases)

pub returns-in-Next-clause-gained : goal.returns-in-Next-clause-gained
returns-in-Next-clause-gained c = λ rest rest'.
    let s = c.args.store.now in
    let new = c.next_at_once.new.store in
    let modes = modes_of c.args.declarations.now in
    let k = stood_for s.core c.args.control.now rest in
    let d = stood_for new.core c.next_at_once.new.control rest' in
    subst (λ (what : Instr). GainsOrLeaves modes (plain_code s.code) c.args.line (plain_instr (variables s.core) what) k d s.bases new.bases c.next_at_once.result) (sym c.in-Next.is)
    (stay_gains modes (plain_code s.code) c.args.line (plain_instr (variables s.core) (Next c.in-Next.to)) k d s.bases new.bases c.next_at_once.result refl c.next_at_once.ensures.bases)

pub returns-in-Call-clause-gained : goal.returns-in-Call-clause-gained
returns-in-Call-clause-gained c = λ rest rest'.
    let s = c.args.store.now in
    let new = c.call_at_once.new.store in
    let modes = modes_of c.args.declarations.now in
    let k = stood_for s.core c.args.control.now rest in
    let d = stood_for new.core c.call_at_once.new.control rest' in
    subst (λ (what : Instr). GainsOrLeaves modes (plain_code s.code) c.args.line (plain_instr (variables s.core) what) k d s.bases new.bases c.call_at_once.result) (sym c.in-Call.is)
    (stay_gains modes (plain_code s.code) c.args.line (plain_instr (variables s.core) (Call c.in-Call.body)) k d s.bases new.bases c.call_at_once.result (call_told_same modes c.requires.serves.main c.in-Call.body c.args.line (slice_get (plain_code s.code).bodies c.in-Call.body) k s.bases (at_main (plain_code s.code) c.in-Call.body c.requires.serves.bare)) c.call_at_once.ensures.bases)

pub returns-in-Return-clause-gained : goal.returns-in-Return-clause-gained
returns-in-Return-clause-gained c = λ rest rest'.
    let s = c.args.store.now in
    let new = c.return_at_once.new.store in
    let modes = modes_of c.args.declarations.now in
    let k = stood_for s.core c.args.control.now rest in
    let d = stood_for new.core c.args.control.now rest' in
    subst (λ (what : Instr). GainsOrLeaves modes (plain_code s.code) c.args.line (plain_instr (variables s.core) what) k d s.bases new.bases c.return_at_once.result) (sym c.in-Return.is)
    (stay_gains modes (plain_code s.code) c.args.line (plain_instr (variables s.core) Return) k d s.bases new.bases c.return_at_once.result (return_same modes (slice_get (plain_code s.code).bodies k.now.body) s.bases) c.return_at_once.ensures.bases)

pub returns-in-Round-clause-gained : goal.returns-in-Round-clause-gained
returns-in-Round-clause-gained c = λ rest rest'.
    let s = c.args.store.now in
    let new = c.round.new.store in
    let modes = modes_of c.args.declarations.now in
    let from = c.args.control.now in
    let k = stood_for s.core from rest in
    let d = stood_for new.core c.round.new.control rest' in
    subst (λ (what : Instr). GainsOrLeaves modes (plain_code s.code) c.args.line (plain_instr (variables s.core) what) k d s.bases new.bases c.went_on-in-Round.result) (sym c.in-Round.is)
    (stay_gains modes (plain_code s.code) c.args.line (plain_instr (variables s.core) Round) k d s.bases new.bases c.went_on-in-Round.result refl
    (does_stay s new from c.round.new.control c.args.line (plain_instr (variables s.core) Round) c.round.result c.went_on-in-Round.result c.went_on-in-Round.ensures (c.round.ensures.did c.args.line)))

pub returns-in_ok-store_at_once-in-Store-clause-gained : goal.returns-in_ok-store_at_once-in-Store-clause-gained
returns-in_ok-store_at_once-in-Store-clause-gained c = λ rest rest'.
    let s = c.args.store.now in
    let new = c.store_at_once.new.store in
    let modes = modes_of c.args.declarations.now in
    let from = c.args.control.now in
    let done = c.in_ok-store_at_once-in-Store.field-0 in
    subst (λ (what : Instr). GainsOrLeaves modes (plain_code s.code) c.args.line (plain_instr (variables s.core) what) (stood_for s.core from rest) (stood_for new.core from rest') s.bases new.bases (Ok done)) (sym c.in-Store.is)
    (stored_gain modes c.requires.serves.main s new c.args.line (plain_slot (variables s.core) c.in-Store.slot) (stood_for s.core from rest) (world_of from rest') done c.in_ok-store_at_once-in-Store.ensures.gained c.in_ok-store_at_once-in-Store.ensures.entered)

pub returns-in-Alter-clause-gained : goal.returns-in-Alter-clause-gained
returns-in-Alter-clause-gained c = λ rest rest'.
    let s = c.args.store.now in
    let n = c.alter_at_once.new in
    let modes = modes_of c.args.declarations.now in
    let k = stood_for s.core c.args.control.now rest in
    let d = stood_for n.store.core n.control rest' in
    let a = plain_alteration c.in-Alter.what in
    let x = plain_slot (variables s.core) c.in-Alter.slot in
    let whole : c.as_slice.result.now ≡ c.in-Alter.brackets = c.as_slice.ensures ∙ c.get.ensures in
    subst (λ (what : Instr). GainsOrLeaves modes (plain_code s.code) c.args.line (plain_instr (variables s.core) what) k d s.bases n.store.bases c.alter_at_once.result) (sym c.in-Alter.is)
    (subst (λ l. GainsOrLeaves modes (plain_code s.code) c.args.line (Alter a x (map plain_bracket l)) k d s.bases n.store.bases c.alter_at_once.result) whole (c.alter_at_once.ensures.gained rest rest'))
