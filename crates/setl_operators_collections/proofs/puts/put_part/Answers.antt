use Rattle.std.proofs.Common.{◌≤◌, ◌-◌, Some, length, arith}
use Rattle.std.proofs.lemmas.Int.{to_z-of_z}
use mir.Syntax.{w128}
use mir.Val.{SFits}
use Rattle.setl_value.specs.Datum.{tuple_of}
use Rattle.setl_value.specs.code.DatumOf.{datum}
use Rattle.setl_tuple.specs.Tuples.{index_of, put_of}
use Rattle.setl_operators_collections.proofs.Depths.{deep_part}
use Rattle.setl_operators_collections.proofs.Rows.{paid_deep}
use Rattle.setl_operators_collections.proofs.puts.put_part.Goals as goal

pub returns-in-Err-Deep-clause-changes : goal.returns-in-Err-Deep-clause-changes
returns-in-Err-Deep-clause-changes c =
    let fits : SFits w128 c.args.i = c.ranges.i in
    let i = index_of c.args.i in
    let d = datum c.args.v in
    let size = simp to_z-of_z at c.unsigned_abs.ensures.value in
    let enough : i - length c.args.t.now ≤ c.args.turns = omega (arith, size, c.saturating_sub-between.ensures) in
    paid_deep (i - length c.args.t.now) c.args.turns (tuple_of (put_of c.args.t.now i (Some d))) enough (deep_part c.args.t.now i d (c.in-Err-Deep.ensures.deep.0 cc).1)
