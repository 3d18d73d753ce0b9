use Rattle.std.proofs.Common.{ap, sym, ◌∙◌, subst}
use Rattle.std.proofs.lemmas.Int.{to_z-of_z}
use mir.Syntax.{w128}
use mir.Val.{SFits}
use Rattle.setl_tuple.specs.Tuples.{slice_of}
use Rattle.setl_operators_table.specs.Selections.{part_of_tuple}
use Rattle.setl_operators_table.specs.code.Answers.{Tells}
use Rattle.setl_operators_collections.proofs.Rows.{parts_back}
use Rattle.setl_operators_collections.proofs.selections.components.Goals as goal

pub returns-in-Ok : goal.returns-in-Ok
returns-in-Ok c =
    let i_fits : SFits w128 c.args.i = c.ranges.i in
    let j_fits : SFits w128 c.args.j = c.ranges.j in
    let told = simp to_z-of_z at c.in-Ok.ensures.part in
    let row = ap (λ l. part_of_tuple (slice_of l c.args.i c.args.j)) (parts_back c.args.t.now) ∙ ap part_of_tuple told in
    subst (Tells c.tuple.result) (sym row) c.tuple.ensures

pub returns-in-Err-Range : goal.returns-in-Err-Range
returns-in-Err-Range c =
    let i_fits : SFits w128 c.args.i = c.ranges.i in
    let j_fits : SFits w128 c.args.j = c.ranges.j in
    let told = simp to_z-of_z at (c.in-Err-Range.ensures.range.0 cc) in
    ap (λ l. part_of_tuple (slice_of l c.args.i c.args.j)) (parts_back c.args.t.now) ∙ ap part_of_tuple told
