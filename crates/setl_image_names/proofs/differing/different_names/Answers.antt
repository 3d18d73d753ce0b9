use Rattle.setl_image_names.proofs.NewNames.{stops_at, goes_through}
use Rattle.setl_image_names.proofs.differing.different_names.Goals as goal

pub returns-then-not-branch : goal.returns-then-not-branch
returns-then-not-branch c =
    stops_at c.args.names.now c.loop-name.all c.loop-name.name-index c.name-item.result c.bytes.result.now c.in_ok-put.field-0 c.loop-name-test.true c.name-item.is c.bytes.ensures.value c.loop-name.invariant.rest
    c.in_ok-put.ensures.new c.if-not-branch.true

pub returns : goal.returns
returns c = goes_through c.args.names.now c.loop-name.all c.loop-name.name-index c.loop-name-test.false c.loop-name.invariant.rest c.loop-name.invariant.all
