use Rattle.std.proofs.Common.{IfOk, refl, sym, subst}
use Rattle.setl_code.specs.declared.code.Instr.{Instr}
use Rattle.setl_code.specs.declared.code.Instr.TheVariants.{Parts, Begin, Collect, Add, Leave}
use Rattle.setl_code.specs.Plain.{plain_instr}
use Rattle.setl_store.specs.Standing.{variables}
use Rattle.setl_machine_control.specs.Working.{Does}
use Rattle.setl_machine.proofs.Working.{works_alone}
use Rattle.setl_machine.proofs.iterating.do_iteration.Goals as goal

pub returns-in-Parts : goal.returns-in-Parts
returns-in-Parts c =
    let s = c.args.store.now in
    let from = c.args.control.now in
    record {
      did = subst (λ (what : Instr). IfOk c.take_apart.result (λ end. Does s from c.args.line (plain_instr (variables s.core) what) c.take_apart.new.store from end)) (sym c.in-Parts.is)
          (works_alone s c.take_apart.new.store from c.args.line (plain_instr (variables s.core) (Parts c.in-Parts.count)) c.take_apart.result c.take_apart.ensures);
      reader = refl;
    }

pub returns-in-Begin : goal.returns-in-Begin
returns-in-Begin c =
    let s = c.args.store.now in
    let from = c.args.control.now in
    record {
      did = subst (λ (what : Instr). IfOk c.begin_over.result (λ end. Does s from c.args.line (plain_instr (variables s.core) what) c.begin_over.new.store from end)) (sym c.in-Begin.is)
          (works_alone s c.begin_over.new.store from c.args.line (plain_instr (variables s.core) (Begin c.in-Begin.how c.in-Begin.count)) c.begin_over.result c.begin_over.ensures);
      reader = refl;
    }

pub returns-in-Collect : goal.returns-in-Collect
returns-in-Collect c =
    let s = c.args.store.now in
    let from = c.args.control.now in
    record {
      did = subst (λ (what : Instr). IfOk c.collect.result (λ end. Does s from c.args.line (plain_instr (variables s.core) what) c.collect.new.store from end)) (sym c.in-Collect.is)
          (works_alone s c.collect.new.store from c.args.line (plain_instr (variables s.core) (Collect c.in-Collect.what)) c.collect.result (c.collect.ensures c.args.line));
      reader = refl;
    }

pub returns-in-Add : goal.returns-in-Add
returns-in-Add c =
    let s = c.args.store.now in
    let from = c.args.control.now in
    record {
      did = subst (λ (what : Instr). IfOk c.add.result (λ end. Does s from c.args.line (plain_instr (variables s.core) what) c.add.new.store from end)) (sym c.in-Add.is)
          (works_alone s c.add.new.store from c.args.line (plain_instr (variables s.core) (Add c.in-Add.count)) c.add.result c.add.ensures);
      reader = refl;
    }

pub returns-in-Leave : goal.returns-in-Leave
returns-in-Leave c =
    let s = c.args.store.now in
    let from = c.args.control.now in
    record {
      did = subst (λ (what : Instr). IfOk c.leave.result (λ end. Does s from c.args.line (plain_instr (variables s.core) what) c.leave.new.store from end)) (sym c.in-Leave.is)
          (works_alone s c.leave.new.store from c.args.line (plain_instr (variables s.core) (Leave c.in-Leave.count)) c.leave.result (c.leave.ensures c.args.line));
      reader = refl;
    }
