use Rattle.setl_code.specs.Code.{ReturnTop}
use Rattle.setl_machine.proofs.AtOnce.{went_alone}
use Rattle.setl_machine.proofs.Gaining.{works_stay}
use Rattle.setl_machine.proofs.at_once.return_at_once.Goals as goal

pub returns-clause-did : goal.returns-clause-did
returns-clause-did c = λ modes k line.
    went_alone modes c.args.store.now c.leave_body.new.store k line ReturnTop c.leave_body.result c.went_on.result c.went_on.ensures (c.leave_body.ensures line)

pub returns-clause-bases : goal.returns-clause-bases
returns-clause-bases c = works_stay c.args.store.now c.leave_body.new.store 0 ReturnTop c.leave_body.result c.went_on.result c.went_on.ensures (c.leave_body.ensures 0)
