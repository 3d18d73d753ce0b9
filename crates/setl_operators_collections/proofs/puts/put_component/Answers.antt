use Rattle.std.proofs.Common.{ap, sym, ◌∙◌, subst, arith}
use Rattle.std.proofs.lemmas.Int.{ints, to_z-of_z}
use mir.Syntax.{w128}
use mir.Val.{SFits}
use Rattle.setl_value.specs.Datum.{tuple_of}
use Rattle.setl_value.specs.code.DatumOf.{part}
use Rattle.setl_tuple.specs.Tuples.{index_of}
use Rattle.setl_operators_table.specs.Puts.{put_part}
use Rattle.setl_operators_table.specs.code.Answers.{Changes}
use Rattle.setl_operators_collections.proofs.Rows.{place_row}
use Rattle.setl_operators_collections.proofs.puts.put_component.Goals as goal

pub returns-in-None-clause-changes : goal.returns-in-None-clause-changes
returns-in-None-clause-changes c =
    let fits : SFits w128 c.args.i = c.ranges.i in
    let told = simp to_z-of_z at c.put_om.ensures.changes in
    let row = place_row c.args.turns c.args.i (part c.args.y) c.args.t.now (omega (arith, ints)) in
    subst (λ o. Changes c.put_om.result o (tuple_of c.put_om.new.t)) (ap (λ o. put_part c.args.turns (index_of c.args.i) (part o) c.args.t.now) (sym c.in-None.is) ∙ row) told

pub returns-in-Some-clause-changes : goal.returns-in-Some-clause-changes
returns-in-Some-clause-changes c =
    let fits : SFits w128 c.args.i = c.ranges.i in
    let told = simp to_z-of_z at c.put_part.ensures.changes in
    let row = place_row c.args.turns c.args.i (part c.args.y) c.args.t.now (omega (arith, ints)) in
    subst (λ o. Changes c.put_part.result o (tuple_of c.put_part.new.t)) (ap (λ o. put_part c.args.turns (index_of c.args.i) (part o) c.args.t.now) (sym c.in-Some.is) ∙ row) told
