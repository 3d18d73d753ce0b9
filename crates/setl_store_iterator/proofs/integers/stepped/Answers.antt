use Rattle.std.specs.Int.{w128}
use Rattle.std.proofs.lemmas.Int.{to_z-of_z, wrapping_sub_is}
use Rattle.std.proofs.Common.{sym, ◌∙◌}
use Rattle.setl_store_iterator.proofs.IntegerSteps.{told_steps}
use Rattle.setl_store_iterator.proofs.integers.stepped.Goals as goal

pub returns : goal.returns
returns c =
    let a = c.args.a in
    let b = c.args.b in
    let z = c.args.c in
    told_steps _ _ _ a b z _ c.abs_diff.result c.abs_diff-2.result (to_z-of_z w128 a c.ranges.a) (to_z-of_z w128 b c.ranges.b) (to_z-of_z w128 z c.ranges.c) c.ranges.a c.ranges.c c.requires (wrapping_sub_is w128 b a c.ranges.b c.ranges.a) (sym c.is_past.ensures ∙ c.if-is_past.false) c.abs_diff.ensures c.abs_diff-2.ensures
