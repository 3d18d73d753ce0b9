use Rattle.std.proofs.Common.{◌≡◌, ◌∙◌, ◌∷◌, [], true, ℕ, ap, drop, map, sym, subst, Some, Option}
use Rattle.setl_code.specs.CodeCore.{Result as Holds}
use Rattle.setl_code.specs.Plain.{plain_slot, plain_bracket, plain_alteration}
use Rattle.setl_modes.specs.Modes.{mode_of}
use Rattle.setl_modes_parts.specs.Parts.{combines}
use Rattle.setl_operators_table.specs.Operators.{op_of}
use Rattle.setl_operators_table.specs.Outcome.{Outcome}
use Rattle.setl_rep_updates.specs.Changed.{given_by}
use Rattle.setl_store.specs.Forms.{UpdatesFreely}
use Rattle.setl_store.specs.Standing.{Standing, variables}
use Rattle.setl_value.specs.Datum.{Datum}
use Rattle.setl_value.specs.code.DatumOf.{datum}
use Rattle.setl_machine_control.specs.Declaring.{modes_of}
use Rattle.setl_machine_variables.proofs.InForm.{combined_in_form, form_gains, given_alike, still_on_top}
use Rattle.setl_machine_variables.proofs.in_form.update_form.Goals as goal

pub drop_top-requires : goal.drop_top-requires
drop_top-requires c =
    let old = c.args.store.now in
    let ops = old.core.now.operands in
    let x = plain_slot (variables old.core) c.args.slot in
    let by = c.in-Some.by in
    let v = c.in_ok-value.value in
    let gives : Option Datum → ℕ → Outcome = λ s. op_of by (s ∷ Some (datum v) ∷ []) in
    let top : ops ≡ Holds (Some (datum v)) ∷ drop 1 ops = subst (λ w. ops ≡ Holds (Some (datum w)) ∷ drop 1 ops) (sym c.in_ok-value.ensures.same) c.in-Some-one.ensures in
    still_on_top by old (record c.update.new.self { bases = old.bases }) x (datum v)
    (given_alike (given_by c.in-Some-change_of.change) gives x old c.update.new.self c.in-Some-change_of.ensures (mode_of c.in-Some.mode.now)
    (subst (UpdatesFreely (given_by c.in-Some-change_of.change) (mode_of c.in-Some.mode.now) x old c.update.new.self) c.if-not-branch.false c.in_ok-update.ensures.done)) top

pub returns-clause-did : goal.returns-clause-did
returns-clause-did c = λ line.
    let old = c.args.store.now in
    let ops = old.core.now.operands in
    let x = plain_slot (variables old.core) c.args.slot in
    let by = c.in-Some.by in
    let m = mode_of c.in-Some.mode.now in
    let v = c.in_ok-value.value in
    let gives : Option Datum → ℕ → Outcome = λ s. op_of by (s ∷ Some (datum v) ∷ []) in
    let top : ops ≡ Holds (Some (datum v)) ∷ drop 1 ops = subst (λ w. ops ≡ Holds (Some (datum w)) ∷ drop 1 ops) (sym c.in_ok-value.ensures.same) c.in-Some-one.ensures in
    let sure : combines by m (Some (datum v)) ≡ true = ap (λ w. combines by m (Some (datum w))) (sym c.in_ok-copy.ensures.same) ∙ sym c.combines.ensures ∙ c.if-not-combines.false in
    let as_before : Standing → Standing = λ s. record s { bases = old.bases } in
    combined_in_form c.parts_decide.ensures.combined c.declared_variables_fit.ensures.held (modes_of c.args.declarations.now) old (as_before c.update.new.self) (as_before c.drop_top.new.self) (as_before c.go_on.new.store) line x m by
    (plain_alteration c.args.what) (map plain_bracket c.args.brackets.now) (datum v) c.requires.serves.fitting c.in-Some.ensures.0 c.in-Some.ensures.1 c.in-Some.ensures.2 sure top
    (given_alike (given_by c.in-Some-change_of.change) gives x old c.update.new.self c.in-Some-change_of.ensures m
    (subst (UpdatesFreely (given_by c.in-Some-change_of.change) m x old c.update.new.self) c.if-not-branch.false c.in_ok-update.ensures.done)) (ap as_before c.in_ok-drop_top.ensures) (ap as_before c.go_on.ensures)

pub returns-clause-gained : goal.returns-clause-gained
returns-clause-gained c = λ turns is.
    let old = c.args.store.now in
    let x = plain_slot (variables old.core) c.args.slot in
    let m = mode_of c.in-Some.mode.now in
    let gives = given_by c.in-Some-change_of.change in
    form_gains (modes_of c.args.declarations.now) gives old c.update.new.self c.drop_top.new.self c.go_on.new.store x m (plain_alteration c.args.what) c.in-Some.by (map plain_bracket c.args.brackets.now) turns c.in-Some.ensures.2 c.in-Some.ensures.0
    (subst (UpdatesFreely gives m x old c.update.new.self) c.if-not-branch.false c.in_ok-update.ensures.done) c.in_ok-drop_top.ensures c.go_on.ensures
