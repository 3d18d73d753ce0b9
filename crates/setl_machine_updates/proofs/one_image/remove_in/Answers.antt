use Rattle.std.proofs.Common.{◌∷◌, [], sym, subst, Some, Ok, IfOk, IfSome}
use Rattle.setl_value.specs.Datum.{set_of}
use Rattle.setl_value.specs.code.Body.{Members}
use Rattle.setl_value.specs.code.DatumOf.{datum}
use Rattle.setl_operators_table.specs.declared.Operator.TheVariants.{Less}
use Rattle.setl_operators_table.specs.Operators.{op_of}
use Rattle.setl_model.specs.Core.{Brace}
use Rattle.setl_model.specs.Places.{combined}
use Rattle.setl_machine_updates.specs.Updates.{Updates}
use Rattle.setl_machine_updates.proofs.one_image.remove_in.Goals as goal

pub returns-in-Set-clause-updated : goal.returns-in-Set-clause-updated
returns-in-Set-clause-updated c =
    let turns = c.args.turns in
    let new = Some (set_of (Members c.remove_pair.new.f)) in
    subst (λ w. IfOk c.remove_pair.result (λ o. IfSome o (λ left. Updates (combined (Brace (Some (datum c.args.x.now)) ∷ []) (Some (datum w)) (λ p now. op_of Less (p ∷ Some (datum c.args.y.now) ∷ []) now) turns) turns new (Ok left))))
    (sym c.in-Set.is) c.remove_pair.ensures.updated
