use Rattle.setl_code.specs.Code.{NextOr}
use Rattle.setl_machine.proofs.AtOnce.{went}
use Rattle.setl_machine.proofs.Working.{does_untested}
use Rattle.setl_machine.proofs.Gaining.{does_stay}
use Rattle.setl_machine.proofs.at_once.next_at_once.Goals as goal

pub returns-clause-did : goal.returns-clause-did
returns-clause-did c = λ modes.
    let s = c.args.store.now in
    let from = c.args.control.now in
    went modes s c.next.new.store from c.next.new.control c.args.line (NextOr c.args.to) c.next.result c.went_on.result c.went_on.ensures
    (does_untested modes s c.next.new.store from c.next.new.control c.args.line (NextOr c.args.to) c.next.result (c.next.ensures.did c.args.line))

pub returns-clause-bases : goal.returns-clause-bases
returns-clause-bases c = does_stay c.args.store.now c.next.new.store c.args.control.now c.next.new.control c.args.line (NextOr c.args.to) c.next.result c.went_on.result c.went_on.ensures (c.next.ensures.did c.args.line)
