use Rattle.std.proofs.Common.{◌≡◌, ◌∙◌, IfOk, map, refl, sym, subst}
use Rattle.setl_code.specs.Code.{Alter}
use Rattle.setl_code.specs.declared.code.Instr.{Instr}
use Rattle.setl_code.specs.declared.code.Instr.TheVariants.{Load, Take, Store}
use Rattle.std.proofs.lemmas.Result.{IfOk-weaker}
use Rattle.setl_code.specs.Plain.{plain_alteration, plain_bracket, plain_code, plain_instr, plain_slot}
use Rattle.setl_store.specs.Standing.{variables}
use Rattle.setl_machine_control.specs.Declaring.{modes_of}
use Rattle.setl_machine_control.specs.Control.{world_of, stood_for}
use Rattle.setl_machine_control.specs.Working.{Works, DoesBy}
use Rattle.setl_machine_variables.specs.Gaining.{stores_at, GainsIf, GainsStore}
use Rattle.setl_machine.specs.Gaining.{Gains}
use Rattle.setl_machine.proofs.Gaining.{alter_gains, leaves_gains, store_gains}
use Rattle.setl_machine_control.specs.Laws.{works_alone_by}
use Rattle.setl_machine.proofs.Working.{works_any}
use Rattle.setl_machine.proofs.variables.do_variable.Goals as goal

pub returns-in-Load : goal.returns-in-Load
returns-in-Load c =
    let s = c.args.store.now in
    let modes = modes_of c.args.declarations.now in
    let from = c.args.control.now in
    record {
      did = subst (λ (what : Instr). IfOk c.load.result (λ end. DoesBy modes s from c.args.line (plain_instr (variables s.core) what) c.load.new.store from end)) (sym c.in-Load.is)
          (works_any modes s c.load.new.store from c.args.line (plain_instr (variables s.core) (Load c.in-Load.slot)) c.load.result (c.load.ensures c.args.line));
      gained = λ rest rest'. subst (λ (what : Instr). IfOk c.load.result (λ end. Gains modes (plain_code s.code) c.args.line (plain_instr (variables s.core) what) (stood_for s.core from rest) (stood_for c.load.new.store.core from rest') s.bases c.load.new.store.bases end)) (sym c.in-Load.is)
          (IfOk-weaker c.load.result (λ e. Works s c.args.line (plain_instr (variables s.core) (Load c.in-Load.slot)) c.load.new.store e) (Gains modes (plain_code s.code) c.args.line (plain_instr (variables s.core) (Load c.in-Load.slot)) (stood_for s.core from rest) (stood_for c.load.new.store.core from rest') s.bases c.load.new.store.bases)
          (λ e h. leaves_gains modes (plain_code s.code) c.args.line (plain_instr (variables s.core) (Load c.in-Load.slot)) (stood_for s.core from rest) (stood_for c.load.new.store.core from rest') s.bases c.load.new.store.bases e (λ a b k d. refl) h.2) (c.load.ensures c.args.line));
      reader = refl;
    }

pub returns-in-Take : goal.returns-in-Take
returns-in-Take c =
    let s = c.args.store.now in
    let modes = modes_of c.args.declarations.now in
    let from = c.args.control.now in
    record {
      did = subst (λ (what : Instr). IfOk c.take.result (λ end. DoesBy modes s from c.args.line (plain_instr (variables s.core) what) c.take.new.store from end)) (sym c.in-Take.is)
          (works_any modes s c.take.new.store from c.args.line (plain_instr (variables s.core) (Take c.in-Take.slot)) c.take.result (c.take.ensures c.args.line));
      gained = λ rest rest'. subst (λ (what : Instr). IfOk c.take.result (λ end. Gains modes (plain_code s.code) c.args.line (plain_instr (variables s.core) what) (stood_for s.core from rest) (stood_for c.take.new.store.core from rest') s.bases c.take.new.store.bases end)) (sym c.in-Take.is)
          (IfOk-weaker c.take.result (λ e. Works s c.args.line (plain_instr (variables s.core) (Take c.in-Take.slot)) c.take.new.store e) (Gains modes (plain_code s.code) c.args.line (plain_instr (variables s.core) (Take c.in-Take.slot)) (stood_for s.core from rest) (stood_for c.take.new.store.core from rest') s.bases c.take.new.store.bases)
          (λ e h. leaves_gains modes (plain_code s.code) c.args.line (plain_instr (variables s.core) (Take c.in-Take.slot)) (stood_for s.core from rest) (stood_for c.take.new.store.core from rest') s.bases c.take.new.store.bases e (λ a b k d. refl) h.2) (c.take.ensures c.args.line));
      reader = refl;
    }

pub returns-in-Store : goal.returns-in-Store
returns-in-Store c =
    let s = c.args.store.now in
    let modes = modes_of c.args.declarations.now in
    let from = c.args.control.now in
    record {
      did = subst (λ (what : Instr). IfOk c.store_in.result (λ end. DoesBy modes s from c.args.line (plain_instr (variables s.core) what) c.store_in.new.store from end)) (sym c.in-Store.is)
          (works_alone_by modes s c.store_in.new.store from c.args.line (plain_instr (variables s.core) (Store c.in-Store.slot)) c.store_in.result c.store_in.ensures.did);
      gained = λ rest rest'. subst (λ (what : Instr). IfOk c.store_in.result (λ end. Gains modes (plain_code s.code) c.args.line (plain_instr (variables s.core) what) (stood_for s.core from rest) (stood_for c.store_in.new.store.core from rest') s.bases c.store_in.new.store.bases end)) (sym c.in-Store.is)
          (IfOk-weaker c.store_in.result (GainsStore modes (plain_slot (variables s.core) c.in-Store.slot) s c.store_in.new.store) (Gains modes (plain_code s.code) c.args.line (plain_instr (variables s.core) (Store c.in-Store.slot)) (stood_for s.core from rest) (stood_for c.store_in.new.store.core from rest') s.bases c.store_in.new.store.bases)
          (λ e g. store_gains modes c.requires.serves.main s c.store_in.new.store c.args.line (plain_slot (variables s.core) c.in-Store.slot) (stood_for s.core from rest) (world_of from rest') e g) c.store_in.ensures.gained);
      reader = refl;
    }

pub returns-in-Alter-clause-gained : goal.returns-in-Alter-clause-gained
returns-in-Alter-clause-gained c = λ rest rest'.
    let s = c.args.store.now in
    let modes = modes_of c.args.declarations.now in
    let from = c.args.control.now in
    let new = c.update.new.store in
    let to = c.update.new.control in
    let a = plain_alteration c.in-Alter.what in
    let x = plain_slot (variables s.core) c.in-Alter.slot in
    let k = stood_for s.core from rest in
    let d = stood_for new.core to rest' in
    let bs = map plain_bracket c.as_slice.result.now in
    let whole : c.as_slice.result.now ≡ c.in-Alter.brackets = c.as_slice.ensures ∙ c.get.ensures in
    subst (λ (what : Instr). IfOk c.update.result (λ end. Gains modes (plain_code s.code) c.args.line (plain_instr (variables s.core) what) k d s.bases new.bases end)) (sym c.in-Alter.is)
    (subst (λ l. IfOk c.update.result (λ end. Gains modes (plain_code s.code) c.args.line (Alter a x (map plain_bracket l)) k d s.bases new.bases end)) whole
    (IfOk-weaker c.update.result (GainsIf (stores_at a x bs s.core from.turns) modes x s new) (Gains modes (plain_code s.code) c.args.line (Alter a x bs) k d s.bases new.bases)
    (λ e g. alter_gains modes c.requires.serves.main s new from to c.args.line a x bs rest rest' e g) c.update.ensures.gained))
