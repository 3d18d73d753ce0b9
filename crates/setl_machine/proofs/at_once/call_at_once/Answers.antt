use Rattle.setl_code.specs.Code.{CallBody}
use Rattle.setl_machine.proofs.AtOnce.{went}
use Rattle.setl_machine.proofs.Gaining.{stays_ok}
use Rattle.setl_machine.proofs.at_once.call_at_once.Goals as goal

pub returns-clause-did : goal.returns-clause-did
returns-clause-did c = λ modes main bare.
    went modes c.args.store.now c.call.new.store c.args.control.now c.call.new.control c.args.line (CallBody c.args.body) c.call.result c.went_on.result c.went_on.ensures (c.call.ensures.did modes main bare)

pub returns-clause-bases : goal.returns-clause-bases
returns-clause-bases c = stays_ok c.args.store.now.bases c.call.new.store.bases c.call.result c.went_on.result c.went_on.ensures c.call.ensures.bases
