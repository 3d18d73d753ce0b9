use Rattle.std.proofs.Common.{ap, sym, ◌∙◌, Some}
use Rattle.std.proofs.lemmas.Int.{to_z-of_z}
use mir.Syntax.{w128}
use mir.Val.{SFits}
use Rattle.setl_value.specs.declared.Value.{Value}
use Rattle.setl_value.specs.code.DatumOf.{datum}
use Rattle.setl_tuple.specs.Tuples.{get_of}
use Rattle.setl_operators_table.specs.Outcome.{Gives}
use Rattle.setl_operators_table.specs.Selections.{component}
use Rattle.setl_machine_variables.proofs.Members.{parts_back}
use Rattle.setl_machine_variables.proofs.reading.component.Goals as goal

pub returns-in-Ok : goal.returns-in-Ok
returns-in-Ok c =
    let fits : SFits w128 c.args.i = c.ranges.i in
    let told = simp to_z-of_z at (rw c.in-Ok-Some.field-0-is at c.in-Ok-Some.ensures) in
    ap (λ l. component (get_of l c.args.i)) (parts_back c.args.t.now) ∙ ap component told ∙ ap (λ (w : Value). Gives (Some (datum w)) 0) (sym c.in-Ok.ensures.same)
