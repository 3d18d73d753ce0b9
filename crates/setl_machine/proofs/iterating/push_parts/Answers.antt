use Rattle.setl_value.specs.code.DatumOf.{part}
use Rattle.setl_machine.proofs.Components.{pushed_one}
use Rattle.setl_machine.proofs.iterating.push_parts.Goals as goal

pub loop-at-preserved : goal.loop-at-preserved
loop-at-preserved c =
    pushed_one c.args.store.now c.loop-at.store c.push.new.self c.args.count c.loop-at.at c.args.tuple.now (part c.in_ok-component.field-0) c.loop-at-test.true c.loop-at.auto.at c.loop-at.invariant c.in_ok-component.ensures c.in_ok-push.ensures
