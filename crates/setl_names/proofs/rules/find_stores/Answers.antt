use Rattle.setl_names.specs.Rules.{stored}
use Rattle.setl_names.specs.code.Stores.{stores_of}
use Rattle.setl_names.proofs.Calls.{stores_end, stores_step}
use Rattle.setl_names.proofs.rules.find_stores.Goals as goal

pub returns-then-i-arguments : goal.returns-then-i-arguments
returns-then-i-arguments c =
    stores_end c.args.params.now c.args.arguments.now c.loop-i.i c.loop-i.all (stores_of (stored c.args.params.now c.args.arguments.now)) c.if-i-arguments.true c.loop-i.invariant

pub loop-i-preserved : goal.loop-i-preserved
loop-i-preserved c =
    stores_step c.args.params.now c.args.arguments.now c.loop-i.i c.index-params-i.result c.index-arguments-i.result c.loop-i.all c.add_argument.new.stores
    (stores_of (stored c.args.params.now c.args.arguments.now)) c.loop-i-test.true c.if-i-arguments.false c.index-params-i.is c.index-arguments-i.is c.in_ok-add_argument.ensures c.loop-i.invariant
