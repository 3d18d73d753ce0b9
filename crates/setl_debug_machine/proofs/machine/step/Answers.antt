use Rattle.std.proofs.Common.{sym, subst, IfOk, OnOk}
use Rattle.setl_machine_control.specs.Declaring.{modes_of}
use Rattle.setl_debug_machine.specs.code.Machines.{StepsTo, Writes}
use Rattle.setl_debug_machine.specs.declared.machine.Machine.{Machine}
use Rattle.setl_debug_machine.proofs.Stepping.{steps_to, writes}
use Rattle.setl_debug_machine.proofs.machine.step.Goals as goal

pub returns-clause-steps : goal.returns-clause-steps
returns-clause-steps c = λ s at.
    let d = c.args.declarations.now in
    let t = c.step_telling in
    let new : Machine = record { store = t.new.store; control = t.new.control; input = t.new.input; output = t.new.out } in
    subst (λ r. IfOk r (StepsTo d s new)) (sym c.stepped_by.ensures)
    (steps_to c.events_are.ensures c.declared_variables_fit.ensures.runs c.steps_add.ensures d s c.args.machine.now new t.result at t.ensures.did t.ensures.tells t.ensures.code t.ensures.goes_on)

pub returns-clause-writes : goal.returns-clause-writes
returns-clause-writes c =
    let t = c.step_telling in
    let new : Machine = record { store = t.new.store; control = t.new.control; input = t.new.input; output = t.new.out } in
    subst (λ r. OnOk r (Writes c.args.machine.now.output t.new.out)) (sym c.stepped_by.ensures) (writes (modes_of c.args.declarations.now) c.args.machine.now new t.result t.ensures.did)
