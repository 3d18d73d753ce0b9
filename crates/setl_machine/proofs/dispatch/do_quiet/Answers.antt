use Rattle.std.proofs.Common.{refl}
use Rattle.std.proofs.lemmas.Result.{IfOk-weaker}
use Rattle.setl_code.specs.Plain.{plain_code, plain_instr}
use Rattle.setl_store.specs.Standing.{variables}
use Rattle.setl_machine_control.specs.Declaring.{modes_of}
use Rattle.setl_machine_control.specs.Control.{stood_for}
use Rattle.setl_machine_control.specs.Working.{Works, Does}
use Rattle.setl_machine.specs.Gaining.{Gains}
use Rattle.setl_machine.proofs.Gaining.{family_leaves, leaves_gains}
use Rattle.setl_machine.proofs.Working.{works_any, does_untested, does_apart}
use Rattle.setl_machine.proofs.dispatch.do_quiet.Goals as goal

pub returns-in-Values : goal.returns-in-Values
returns-in-Values c =
    let s = c.args.store.now in
    record {
      did = works_any (modes_of c.args.declarations.now) s c.do_value.new.store c.args.control.now c.args.line (plain_instr (variables s.core) c.args.what.now) c.do_value.result (c.do_value.ensures c.args.line);
      gained = λ rest rest'. IfOk-weaker c.do_value.result (λ e. Works s c.args.line (plain_instr (variables s.core) c.args.what.now) c.do_value.new.store e)
          (Gains (modes_of c.args.declarations.now) (plain_code s.code) c.args.line (plain_instr (variables s.core) c.args.what.now) (stood_for s.core c.args.control.now rest) (stood_for c.do_value.new.store.core c.args.control.now rest') s.bases c.do_value.new.store.bases)
          (λ e h. leaves_gains (modes_of c.args.declarations.now) (plain_code s.code) c.args.line (plain_instr (variables s.core) c.args.what.now) (stood_for s.core c.args.control.now rest) (stood_for c.do_value.new.store.core c.args.control.now rest') s.bases c.do_value.new.store.bases e
          (family_leaves c.args.what.now (variables s.core) (λ f. absurd (cc)) (λ f. absurd (cc)) (λ f. absurd (cc)) (λ f. absurd (cc))) h.2)
          (c.do_value.ensures c.args.line);
      reader = refl;
    }

pub returns-in-Conditions : goal.returns-in-Conditions
returns-in-Conditions c =
    let s = c.args.store.now in
    record {
      did = works_any (modes_of c.args.declarations.now) s c.do_condition.new.store c.args.control.now c.args.line (plain_instr (variables s.core) c.args.what.now) c.do_condition.result c.do_condition.ensures;
      gained = λ rest rest'. IfOk-weaker c.do_condition.result (λ e. Works s c.args.line (plain_instr (variables s.core) c.args.what.now) c.do_condition.new.store e)
          (Gains (modes_of c.args.declarations.now) (plain_code s.code) c.args.line (plain_instr (variables s.core) c.args.what.now) (stood_for s.core c.args.control.now rest) (stood_for c.do_condition.new.store.core c.args.control.now rest') s.bases c.do_condition.new.store.bases)
          (λ e h. leaves_gains (modes_of c.args.declarations.now) (plain_code s.code) c.args.line (plain_instr (variables s.core) c.args.what.now) (stood_for s.core c.args.control.now rest) (stood_for c.do_condition.new.store.core c.args.control.now rest') s.bases c.do_condition.new.store.bases e
          (family_leaves c.args.what.now (variables s.core) (λ f. absurd (cc)) (λ f. absurd (cc)) (λ f. absurd (cc)) (λ f. absurd (cc))) h.2)
          c.do_condition.ensures;
      reader = refl;
    }

pub returns-in-Operators : goal.returns-in-Operators
returns-in-Operators c =
    let s = c.args.store.now in
    record {
      did = does_untested (modes_of c.args.declarations.now) s c.do_operator.new.store c.args.control.now c.do_operator.new.control c.args.line (plain_instr (variables s.core) c.args.what.now) c.do_operator.result c.do_operator.ensures.did;
      gained = λ rest rest'. IfOk-weaker c.do_operator.result (λ e. Does s c.args.control.now c.args.line (plain_instr (variables s.core) c.args.what.now) c.do_operator.new.store c.do_operator.new.control e)
          (Gains (modes_of c.args.declarations.now) (plain_code s.code) c.args.line (plain_instr (variables s.core) c.args.what.now) (stood_for s.core c.args.control.now rest) (stood_for c.do_operator.new.store.core c.do_operator.new.control rest') s.bases c.do_operator.new.store.bases)
          (λ e h. leaves_gains (modes_of c.args.declarations.now) (plain_code s.code) c.args.line (plain_instr (variables s.core) c.args.what.now) (stood_for s.core c.args.control.now rest) (stood_for c.do_operator.new.store.core c.do_operator.new.control rest') s.bases c.do_operator.new.store.bases e
          (family_leaves c.args.what.now (variables s.core) (λ f. absurd (cc)) (λ f. absurd (cc)) (λ f. absurd (cc)) (λ f. absurd (cc))) h.2)
          c.do_operator.ensures.did;
      reader = c.do_operator.ensures.reader;
    }

pub returns-in-Iteration : goal.returns-in-Iteration
returns-in-Iteration c =
    let s = c.args.store.now in
    record {
      did = does_untested (modes_of c.args.declarations.now) s c.do_iteration.new.store c.args.control.now c.do_iteration.new.control c.args.line (plain_instr (variables s.core) c.args.what.now) c.do_iteration.result c.do_iteration.ensures.did;
      gained = λ rest rest'. IfOk-weaker c.do_iteration.result (λ e. Does s c.args.control.now c.args.line (plain_instr (variables s.core) c.args.what.now) c.do_iteration.new.store c.do_iteration.new.control e)
          (Gains (modes_of c.args.declarations.now) (plain_code s.code) c.args.line (plain_instr (variables s.core) c.args.what.now) (stood_for s.core c.args.control.now rest) (stood_for c.do_iteration.new.store.core c.do_iteration.new.control rest') s.bases c.do_iteration.new.store.bases)
          (λ e h. leaves_gains (modes_of c.args.declarations.now) (plain_code s.code) c.args.line (plain_instr (variables s.core) c.args.what.now) (stood_for s.core c.args.control.now rest) (stood_for c.do_iteration.new.store.core c.do_iteration.new.control rest') s.bases c.do_iteration.new.store.bases e
          (family_leaves c.args.what.now (variables s.core) (λ f. absurd (cc)) (λ f. absurd (cc)) (λ f. absurd (cc)) (λ f. absurd (cc))) h.2)
          c.do_iteration.ensures.did;
      reader = c.do_iteration.ensures.reader;
    }

pub returns-in-Backtracking : goal.returns-in-Backtracking
returns-in-Backtracking c =
    let s = c.args.store.now in
    record {
      did = does_apart (modes_of c.args.declarations.now) s c.do_backtracking.new.store c.args.control.now c.do_backtracking.new.control c.args.line (plain_instr (variables s.core) c.args.what.now) c.do_backtracking.result c.do_backtracking.ensures.did;
      gained = λ rest rest'. c.do_backtracking.ensures.gained (modes_of c.args.declarations.now) (stood_for s.core c.args.control.now rest) (stood_for c.do_backtracking.new.store.core c.do_backtracking.new.control rest');
      reader = c.do_backtracking.ensures.reader;
    }

pub returns-in-Calls-clause-gained : goal.returns-in-Calls-clause-gained
returns-in-Calls-clause-gained c = λ rest rest'. c.do_call.ensures.gained (stood_for c.args.store.now.core c.args.control.now rest) (stood_for c.do_call.new.store.core c.do_call.new.control rest')
