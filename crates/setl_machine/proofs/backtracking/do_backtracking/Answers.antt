use Rattle.std.proofs.Common.{IfOk, refl, sym, subst}
use Rattle.setl_code.specs.declared.code.Instr.{Instr}
use Rattle.setl_code.specs.declared.code.Instr.TheVariants.{Keep, Forget}
use Rattle.std.proofs.lemmas.Result.{IfOk-weaker}
use Rattle.setl_code.specs.Code.{KeepAll, GoBack, ForgetKept}
use Rattle.setl_code.specs.Plain.{plain_code, plain_instr}
use Rattle.setl_store.specs.Standing.{variables}
use Rattle.setl_machine_control.specs.Working.{DoesApart}
use Rattle.setl_store.specs.Gained.{with_kept, cut_to_kept, without_kept}
use Rattle.setl_machine_control.specs.Gaining.{BasesAre}
use Rattle.setl_machine.specs.Gaining.{Gains}
use Rattle.setl_machine.proofs.Gaining.{keep_gains, back_gains, forget_gains}
use Rattle.setl_machine.proofs.Working.{works_apart}
use Rattle.setl_machine.proofs.backtracking.do_backtracking.Goals as goal

pub returns-in-Keep : goal.returns-in-Keep
returns-in-Keep c =
    let s = c.args.store.now in
    let from = c.args.control.now in
    record {
      did = subst (λ (what : Instr). IfOk c.keep.result (λ end. DoesApart s from c.args.line (plain_instr (variables s.core) what) c.keep.new.store from end)) (sym c.in-Keep.is)
          (works_apart s c.keep.new.store from c.args.line (plain_instr (variables s.core) Keep) c.keep.result (c.keep.ensures.did c.args.line));
      gained = λ modes k d. subst (λ (what : Instr). IfOk c.keep.result (λ end. Gains modes (plain_code s.code) c.args.line (plain_instr (variables s.core) what) k d s.bases c.keep.new.store.bases end)) (sym c.in-Keep.is)
          (IfOk-weaker c.keep.result (BasesAre (with_kept s.bases) s.bases c.keep.new.store.bases) (Gains modes (plain_code s.code) c.args.line KeepAll k d s.bases c.keep.new.store.bases)
          (λ e g. keep_gains modes (plain_code s.code) c.args.line k d s.bases c.keep.new.store.bases e g) c.keep.ensures.gained);
      reader = refl;
    }

pub returns-in-Forget : goal.returns-in-Forget
returns-in-Forget c =
    let s = c.args.store.now in
    let from = c.args.control.now in
    record {
      did = subst (λ (what : Instr). IfOk c.forget.result (λ end. DoesApart s from c.args.line (plain_instr (variables s.core) what) c.forget.new.store from end)) (sym c.in-Forget.is)
          (works_apart s c.forget.new.store from c.args.line (plain_instr (variables s.core) Forget) c.forget.result c.forget.ensures.did);
      gained = λ modes k d. subst (λ (what : Instr). IfOk c.forget.result (λ end. Gains modes (plain_code s.code) c.args.line (plain_instr (variables s.core) what) k d s.bases c.forget.new.store.bases end)) (sym c.in-Forget.is)
          (IfOk-weaker c.forget.result (BasesAre (without_kept s.bases) s.bases c.forget.new.store.bases) (Gains modes (plain_code s.code) c.args.line ForgetKept k d s.bases c.forget.new.store.bases)
          (λ e g. forget_gains modes (plain_code s.code) c.args.line k d s.bases c.forget.new.store.bases e g) c.forget.ensures.gained);
      reader = refl;
    }

pub returns-in-Back-clause-gained : goal.returns-in-Back-clause-gained
returns-in-Back-clause-gained c = λ modes k d.
    let s = c.args.store.now in
    subst (λ (what : Instr). IfOk c.back.result (λ end. Gains modes (plain_code s.code) c.args.line (plain_instr (variables s.core) what) k d s.bases c.back.new.store.bases end)) (sym c.in-Back.is)
    (IfOk-weaker c.back.result (BasesAre (cut_to_kept s.bases) s.bases c.back.new.store.bases) (Gains modes (plain_code s.code) c.args.line GoBack k d s.bases c.back.new.store.bases)
    (λ e g. back_gains modes (plain_code s.code) c.args.line k d s.bases c.back.new.store.bases e g) c.back.ensures.gained)
