use Rattle.std.proofs.Common.{◌-◌, ◌+◌, length, map, get_or, ap, refl}
use Rattle.setl_value.specs.code.DatumOf.{part}
use Rattle.setl_store_slots.proofs.Parameters.{handed_on, handed_none, standing_at}
use Rattle.setl_store_slots.proofs.handing.handed_back.Goals as goal

pub returns-then-not-branch : goal.returns-then-not-branch
returns-then-not-branch g c =
    handed_none c.args.bases.now c.args.parameters.now c.args.environment.now.now.slots c.args.lowest (length c.args.parameters.now - 1 - c.loop-i.i) c.loop-i.i (get_or c.args.parameters.now (length c.args.parameters.now - 1 - c.loop-i.i) c.index-parameters-at.result) c.slot.result.now
    (map part c.loop-i.all.items) (map part c.add_handed.new.all.items) (part c.args.value) c.in_ok-add_handed.field-0 refl c.loop-i-test.true (ap (get_or c.args.parameters.now (length c.args.parameters.now - 1 - c.loop-i.i)) c.index-parameters-at.is) c.slot.ensures c.loop-i.invariant c.in_ok-add_handed.ensures c.if-not-branch.true

pub loop-i-preserved : goal.loop-i-preserved
loop-i-preserved g c =
    handed_on c.args.bases.now c.args.parameters.now c.args.environment.now.now.slots c.args.lowest (length c.args.parameters.now - 1 - c.loop-i.i) c.loop-i.i (get_or c.args.parameters.now (length c.args.parameters.now - 1 - c.loop-i.i) c.index-parameters-at.result) c.slot.result.now
    (map part c.loop-i.all.items) (map part c.add_handed.new.all.items) (part c.args.value) c.in_ok-add_handed.field-0 refl c.loop-i-test.true (ap (get_or c.args.parameters.now (length c.args.parameters.now - 1 - c.loop-i.i)) c.index-parameters-at.is) c.slot.ensures c.loop-i.invariant c.in_ok-add_handed.ensures c.if-not-branch.false

pub add_handed-requires : goal.add_handed-requires
add_handed-requires g c = standing_at c.args.bases.now c.args.environment.now.now.slots (c.args.lowest + (length c.args.parameters.now - 1 - c.loop-i.i)) c.slot.result.now c.requires.standing c.slot.ensures
