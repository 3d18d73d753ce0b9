use Rattle.std.proofs.Common.{◌≡◌, IfOk, refl, sym, subst}
use Rattle.std.proofs.lemmas.Result.{IfOk-weaker}
use Rattle.setl_code.specs.Code.{CallBody, ReturnTop}
use Rattle.setl_code.specs.declared.code.Instr.{Instr}
use Rattle.setl_code.specs.declared.code.Instr.TheVariants.{Return}
use Rattle.setl_code.specs.Plain.{plain_code, plain_instr}
use Rattle.setl_store.specs.Standing.{variables}
use Rattle.setl_machine_control.specs.Declaring.{modes_of}
use Rattle.setl_machine_control.specs.Working.{Works, DoesBy}
use Rattle.setl_machine.specs.Gaining.{Gains}
use Rattle.setl_machine.proofs.Gaining.{call_gains, return_gains}
use Rattle.setl_machine.proofs.Working.{works_any}
use Rattle.setl_machine.proofs.calling.do_call.Goals as goal

pub returns-in-Call : goal.returns-in-Call
returns-in-Call c =
    let s = c.args.store.now in
    let modes = modes_of c.args.declarations.now in
    record {
      did = subst (λ (what : Instr). IfOk c.call.result (λ end. DoesBy modes s c.args.control.now c.args.line (plain_instr (variables s.core) what) c.call.new.store c.call.new.control end)) (sym c.in-Call.is)
          (c.call.ensures.did modes c.requires.serves.main c.requires.serves.bare);
      gained = λ k d. subst (λ (what : Instr). IfOk c.call.result (λ end. Gains modes (plain_code s.code) c.args.line (plain_instr (variables s.core) what) k d s.bases c.call.new.store.bases end)) (sym c.in-Call.is)
          (IfOk-weaker c.call.result (λ e. c.call.new.store.bases ≡ s.bases) (Gains modes (plain_code s.code) c.args.line (CallBody c.in-Call.body) k d s.bases c.call.new.store.bases)
          (λ e h. call_gains modes c.requires.serves.main (plain_code s.code) c.requires.serves.bare c.in-Call.body c.args.line k d s.bases c.call.new.store.bases e h) c.call.ensures.bases);
      reader = c.call.ensures.reader;
    }

pub returns-in-Return : goal.returns-in-Return
returns-in-Return c =
    let s = c.args.store.now in
    let modes = modes_of c.args.declarations.now in
    let from = c.args.control.now in
    record {
      did = subst (λ (what : Instr). IfOk c.leave_body.result (λ end. DoesBy modes s from c.args.line (plain_instr (variables s.core) what) c.leave_body.new.store from end)) (sym c.in-Return.is)
          (works_any modes s c.leave_body.new.store from c.args.line (plain_instr (variables s.core) Return) c.leave_body.result (c.leave_body.ensures c.args.line));
      gained = λ k d. subst (λ (what : Instr). IfOk c.leave_body.result (λ end. Gains modes (plain_code s.code) c.args.line (plain_instr (variables s.core) what) k d s.bases c.leave_body.new.store.bases end)) (sym c.in-Return.is)
          (IfOk-weaker c.leave_body.result (λ e. Works s c.args.line ReturnTop c.leave_body.new.store e) (Gains modes (plain_code s.code) c.args.line ReturnTop k d s.bases c.leave_body.new.store.bases)
          (λ e h. return_gains modes (plain_code s.code) c.args.line k d s.bases c.leave_body.new.store.bases e h.2) (c.leave_body.ensures c.args.line));
      reader = refl;
    }
