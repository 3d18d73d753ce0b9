use Rattle.std.specs.Int.{w128, int_wrapping_sub}
use Rattle.std.proofs.lemmas.Int.{to_z-of_z, wrapping_sub_is}
use Rattle.std.proofs.Common.{◌∙◌, rules, to_z, of_z}
use Rattle.setl_store_iterator.proofs.IntegerSteps.{told_back}
use Rattle.setl_store_iterator.proofs.integers.stepped_back.Goals as goal

pub returns : goal.returns
returns c =
    let a = c.args.a in
    let b = c.args.b in
    let z = c.args.c in
    told_back (to_z w128 (of_z w128 a)) (to_z w128 (of_z w128 b)) (to_z w128 (of_z w128 z)) a b z (to_z w128 (of_z w128 c.saturating_add_unsigned.result)) (int_wrapping_sub w128 a b) c.abs_diff-between.result c.abs_diff-step.result (to_z-of_z w128 a c.ranges.a) (to_z-of_z w128 b c.ranges.b) (to_z-of_z w128 z c.ranges.c) c.ranges.a c.ranges.c c.requires c.if-a-c.false c.abs_diff-between.ensures c.abs_diff-step.ensures (to_z-of_z w128 c.saturating_add_unsigned.result (search rules) ∙ c.saturating_add_unsigned.ensures) (wrapping_sub_is w128 a b c.ranges.a c.ranges.b)
