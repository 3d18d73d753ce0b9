use Rattle.std.proofs.Common.{refl}
use Rattle.setl_code.specs.Code.{Unless}
use Rattle.setl_code.specs.Machine.{next, go_to}
use Rattle.setl_machine_control.specs.Control.{in_world}
use Rattle.setl_machine.proofs.Working.{stops}
use Rattle.setl_machine.proofs.conditions.unless.Goals as goal

pub returns-in-Err : goal.returns-in-Err
returns-in-Err c =
    let s = c.args.store.now in
    stops s s c.args.line (Unless c.args.to) s.core.now.operands c.in-Err.end refl (λ w. c.in-Err.ensures (λ v ys. next ys (in_world w s.core)) (λ v ys. go_to c.args.to ys (in_world w s.core)))
