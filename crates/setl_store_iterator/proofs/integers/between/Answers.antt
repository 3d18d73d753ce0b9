use Rattle.std.specs.Int.{w128}
use Rattle.std.proofs.lemmas.Int.{to_z-of_z}
use Rattle.setl_store_iterator.proofs.IntegerSteps.{told_between}
use Rattle.setl_store_iterator.proofs.integers.between.Goals as goal

pub returns : goal.returns
returns c =
    let a = c.args.a in
    let b = c.args.b in
    told_between _ _ a b c.abs_diff.result (to_z-of_z w128 a c.ranges.a) (to_z-of_z w128 b c.ranges.b) c.ranges.a c.ranges.b c.if-b-a.false c.abs_diff.ensures
