use Rattle.std.proofs.Common.{refl}
use Rattle.setl_code.specs.Code.{Decides}
use Rattle.setl_machine_control.specs.Control.{in_world}
use Rattle.setl_machine.proofs.Working.{stops, halts_deciding}
use Rattle.setl_machine.proofs.conditions.decide.Goals as goal

pub returns-in-Err : goal.returns-in-Err
returns-in-Err c =
    let s = c.args.store.now in
    stops s s c.args.line (Decides c.args.what c.args.to) s.core.now.operands c.in-Err.end refl (λ w. halts_deciding c.args.what c.args.to c.args.line s.core.now.operands (in_world w s.core) c.in-Err.end c.in-Err.ensures)
