use Rattle.std.proofs.Common.{◌∙◌, length, ap, arith}
use Rattle.setl_image_operands.specs.Operands.{effect_at}
use Rattle.setl_image_operands.proofs.Linking.{shapes_so}
use Rattle.setl_image_operands.proofs.Lists.{length_map}
use Rattle.setl_image_operands.proofs.shapes.has_shapes.Goals as goal

pub has_table-requires : goal.has_table-requires
has_table-requires c =
    let same = c.deref.ensures.value ∙ c.in_ok-effects.ensures in
    let long = length_map (effect_at c.args.calls.now) c.args.steps.now in
    omega (arith, ap length same, long, c.requires)

pub returns : goal.returns
returns c bodies xs signed = shapes_so c.has_table.result bodies xs c.args.calls.now c.deref.result.now c.args.steps.now (c.deref.ensures.value ∙ c.in_ok-effects.ensures) signed c.has_table.ensures
