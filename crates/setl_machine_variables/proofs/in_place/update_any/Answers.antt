use Rattle.std.proofs.Common.{◌≡◌, length, map, sym, subst, Ok}
use Rattle.setl_code.specs.Code.{Alter}
use Rattle.setl_code.specs.MayRun.{HasSlot}
use Rattle.setl_code.specs.Plain.{plain_slot, plain_bracket, plain_alteration}
use Rattle.setl_store.specs.Standing.{Standing, variables, CanGoOn}
use Rattle.setl_machine_control.specs.Declaring.{modes_of, Serves}
use Rattle.setl_machine_control.specs.Laws.{works_alone_by}
use Rattle.setl_machine_control.specs.Working.{DoesBy}
use Rattle.setl_machine_control.specs.declared.end.End.TheVariants as end
use Rattle.setl_machine_variables.specs.Freely.{WorksOrLeaves}
use Rattle.setl_machine_variables.specs.Gaining.{stores_at, GainsIf}
use Rattle.setl_machine_variables.proofs.Gaining.{gains_told}
use Rattle.setl_machine_variables.proofs.in_place.update_any.Goals as goal

pub returns-then-branch-clause-did : goal.returns-then-branch-clause-did
returns-then-branch-clause-did c =
    let old = c.args.store.now in
    let modes = modes_of c.args.declarations.now in
    let what = Alter (plain_alteration c.args.what) (plain_slot (variables old.core) c.args.slot) (map plain_bracket c.args.brackets.now) in
    works_alone_by modes old c.update_in_form.new.store c.args.control.now c.args.line what (Ok end.Paused)
    (subst (WorksOrLeaves modes old c.args.line what c.update_in_form.new.store) c.if-branch.true (c.in_ok-update_in_form.ensures.did c.args.line))

pub alter-requires-clause-few : goal.alter-requires-clause-few
alter-requires-clause-few c =
    let old = c.args.store.now in
    let modes = modes_of c.args.declarations.now in
    let what = Alter (plain_alteration c.args.what) (plain_slot (variables old.core) c.args.slot) (map plain_bracket c.args.brackets.now) in
    let same : c.update_in_form.new.store ≡ old = subst (WorksOrLeaves modes old c.args.line what c.update_in_form.new.store) c.if-branch.false (c.in_ok-update_in_form.ensures.did c.args.line) in
    subst (λ (s : Standing). CanGoOn s) (sym same) c.requires.few

pub alter-requires-clause-there : goal.alter-requires-clause-there
alter-requires-clause-there c =
    let old = c.args.store.now in
    let modes = modes_of c.args.declarations.now in
    let what = Alter (plain_alteration c.args.what) (plain_slot (variables old.core) c.args.slot) (map plain_bracket c.args.brackets.now) in
    let same : c.update_in_form.new.store ≡ old = subst (WorksOrLeaves modes old c.args.line what c.update_in_form.new.store) c.if-branch.false (c.in_ok-update_in_form.ensures.did c.args.line) in
    subst (λ (s : Standing). HasSlot (length s.core.globals) (length s.core.now.own) c.args.slot) (sym same) c.requires.there

pub alter-requires-clause-serves : goal.alter-requires-clause-serves
alter-requires-clause-serves c =
    let old = c.args.store.now in
    let modes = modes_of c.args.declarations.now in
    let what = Alter (plain_alteration c.args.what) (plain_slot (variables old.core) c.args.slot) (map plain_bracket c.args.brackets.now) in
    let same : c.update_in_form.new.store ≡ old = subst (WorksOrLeaves modes old c.args.line what c.update_in_form.new.store) c.if-branch.false (c.in_ok-update_in_form.ensures.did c.args.line) in
    subst (Serves c.args.declarations.now) (sym same) c.requires.serves

pub returns-clause-did : goal.returns-clause-did
returns-clause-did c =
    let old = c.args.store.now in
    let modes = modes_of c.args.declarations.now in
    let what = Alter (plain_alteration c.args.what) (plain_slot (variables old.core) c.args.slot) (map plain_bracket c.args.brackets.now) in
    let same : c.update_in_form.new.store ≡ old = subst (WorksOrLeaves modes old c.args.line what c.update_in_form.new.store) c.if-branch.false (c.in_ok-update_in_form.ensures.did c.args.line) in
    subst (λ (s : Standing). DoesBy modes s c.args.control.now c.args.line (Alter (plain_alteration c.args.what) (plain_slot (variables s.core) c.args.slot) (map plain_bracket c.args.brackets.now)) c.alter.new.store c.alter.new.control c.in_ok-alter.field-0.end) same
    c.in_ok-alter.ensures.did

pub returns-then-branch-clause-gained : goal.returns-then-branch-clause-gained
returns-then-branch-clause-gained c = c.in_ok-update_in_form.ensures.gained c.args.control.now.turns c.if-branch.true

pub returns-clause-gained : goal.returns-clause-gained
returns-clause-gained c =
    let old = c.args.store.now in
    let modes = modes_of c.args.declarations.now in
    let a = plain_alteration c.args.what in
    let bs = map plain_bracket c.args.brackets.now in
    let what = Alter a (plain_slot (variables old.core) c.args.slot) bs in
    let u = c.in_ok-alter.field-0 in
    let same : c.update_in_form.new.store ≡ old = subst (WorksOrLeaves modes old c.args.line what c.update_in_form.new.store) c.if-branch.false (c.in_ok-update_in_form.ensures.did c.args.line) in
    let mid = c.update_in_form.new.store in
    let x = plain_slot (variables mid.core) c.args.slot in
    subst (λ (s : Standing). GainsIf (stores_at a (plain_slot (variables s.core) c.args.slot) bs s.core c.args.control.now.turns) modes (plain_slot (variables s.core) c.args.slot) s c.alter.new.store u.end) same
    (gains_told modes x mid c.alter.new.store u.stored (stores_at a x bs mid.core c.args.control.now.turns) u.end c.in_ok-alter.ensures.stored c.in_ok-alter.ensures.gained)
