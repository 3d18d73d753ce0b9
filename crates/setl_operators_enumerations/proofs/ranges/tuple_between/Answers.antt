use Rattle.std.specs.Int.{w128}
use Rattle.std.proofs.lemmas.Int.{to_z-of_z}
use Rattle.setl_operators_table.specs.RangeRows.{as_tuple}
use Rattle.setl_operators_enumerations.proofs.RangeResults.{told_range}
use Rattle.setl_operators_enumerations.proofs.ranges.tuple_between.Goals as goal

pub returns-in-Some : goal.returns-in-Some
returns-in-Some c =
    let a = c.args.a in
    let b = c.args.b in
    told_range as_tuple c.args.turns _ _ a b c.in-Some.n c.tuple_of_integers.result (to_z-of_z w128 a c.ranges.a) (to_z-of_z w128 b c.ranges.b) c.ranges.a c.ranges.b c.in-Some.ensures c.tuple_of_integers.ensures
