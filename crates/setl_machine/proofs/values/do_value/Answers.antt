use Rattle.std.proofs.Common.{IfOk, sym, subst}
use Rattle.setl_code.specs.declared.code.Instr.{Instr}
use Rattle.setl_code.specs.Plain.{plain_instr}
use Rattle.setl_store.specs.Standing.{variables}
use Rattle.setl_machine_control.specs.Working.{Works}
use Rattle.setl_machine.proofs.values.do_value.Goals as goal

pub returns-in-Integer : goal.returns-in-Integer
returns-in-Integer c = λ line.
    let s = c.args.store.now in
    subst (λ (what : Instr). IfOk c.push_integer.result (λ end. Works s line (plain_instr (variables s.core) what) c.push_integer.new.store end)) (sym c.in-Integer.is) (c.push_integer.ensures line)
