use Rattle.std.proofs.Common.{ap, sym, ◌∙◌}
use Rattle.std.proofs.lemmas.Int.{to_z-of_z}
use mir.Syntax.{w128}
use mir.Val.{SFits}
use Rattle.setl_tuple.specs.Tuples.{get_of}
use Rattle.setl_operators_table.specs.Outcome.{Gives}
use Rattle.setl_operators_table.specs.Selections.{component}
use Rattle.setl_operators_collections.proofs.Rows.{parts_back}
use Rattle.setl_operators_collections.proofs.selections.component.Goals as goal

pub returns-in_ok-copied-in-Ok : goal.returns-in_ok-copied-in-Ok
returns-in_ok-copied-in-Ok c =
    let fits : SFits w128 c.args.i = c.ranges.i in
    let told = simp to_z-of_z at c.in-Ok.ensures in
    ap (λ l. component (get_of l c.args.i)) (parts_back c.args.t.now) ∙ ap component told ∙ ap (λ o. Gives o 0) (sym c.in_ok-copied-in-Ok.ensures)
