use Rattle.std.proofs.Common.{◌∷◌, refl}
use Rattle.setl_code.specs.Code.{TestBool}
use Rattle.setl_code.specs.CodeCore.{Result as Holds}
use Rattle.setl_code.specs.Machine.{next}
use Rattle.setl_machine_control.specs.Control.{in_world}
use Rattle.setl_machine.proofs.Working.{stops}
use Rattle.setl_machine.proofs.conditions.test.Goals as goal

pub returns-in-Err-clause-did : goal.returns-in-Err-clause-did
returns-in-Err-clause-did c =
    let s = c.args.store.now in
    stops s s c.args.line TestBool s.core.now.operands c.in-Err.end refl (λ w. c.in-Err.ensures (λ v ys. next (Holds v ∷ ys) (in_world w s.core)) (λ v ys. next (Holds v ∷ ys) (in_world w s.core)))
