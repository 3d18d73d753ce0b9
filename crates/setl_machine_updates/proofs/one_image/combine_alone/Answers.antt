use Rattle.std.proofs.Common.{◌∷◌, [], ◌∙◌, ap, sym, subst, Some, IfOk, IfSome}
use Rattle.setl_value.specs.code.DatumOf.{datum, part}
use Rattle.setl_operators_table.specs.Operators.{op_of}
use Rattle.setl_model.specs.Core.{Brace}
use Rattle.setl_model.specs.Places.{combined}
use Rattle.setl_machine_updates.specs.Updates.{Updates}
use Rattle.setl_machine_updates.proofs.one_image.combine_alone.Goals as goal

pub returns-in-Add-clause-updated : goal.returns-in-Add-clause-updated
returns-in-Add-clause-updated c =
    let x = datum c.args.x.now in
    let whole = part c.args.whole.now in
    let turns = c.args.turns in
    let e = ap (λ o. combined (Brace (Some x) ∷ []) whole (λ p now. op_of o (p ∷ Some (datum c.args.value.now) ∷ []) now) turns) c.in-Add.is ∙ c.learn_alone.ensures.sum whole x turns in
    subst (λ o. Updates o turns (part c.add_image.new.whole) c.add_image.result) (sym e) c.add_image.ensures.updated

pub returns-in-Subtract-clause-updated : goal.returns-in-Subtract-clause-updated
returns-in-Subtract-clause-updated c =
    let x = datum c.args.x.now in
    let whole = part c.args.whole.now in
    let turns = c.args.turns in
    let e = ap (λ o. combined (Brace (Some x) ∷ []) whole (λ p now. op_of o (p ∷ Some (datum c.args.value.now) ∷ []) now) turns) c.in-Subtract.is ∙ c.learn_alone.ensures.difference whole x turns in
    subst (λ o. IfOk c.remove_image.result (λ s. IfSome s (λ r. Updates o turns (part c.remove_image.new.whole) r))) (sym e) c.remove_image.ensures.updated
