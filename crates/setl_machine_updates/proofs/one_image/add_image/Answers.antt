use Rattle.std.proofs.Common.{◌∷◌, [], ◌∙◌, ap, sym, subst, ℕ, Option, Some}
use Rattle.setl_value.specs.Datum.{Datum}
use Rattle.setl_value.specs.code.DatumOf.{datum, part}
use Rattle.setl_operators_table.specs.declared.Operator.TheVariants.{With}
use Rattle.setl_operators_table.specs.Operators.{op_of}
use Rattle.setl_operators_table.specs.Outcome.{Outcome}
use Rattle.setl_model.specs.Core.{Brace}
use Rattle.setl_model.specs.Places.{combined}
use Rattle.setl_machine_updates.specs.Updates.{Updates}
use Rattle.setl_machine_updates.proofs.Images.{one_image_more}
use Rattle.setl_machine_updates.proofs.one_image.add_image.Goals as goal

pub returns-clause-updated : goal.returns-clause-updated
returns-clause-updated c =
    let x = datum c.args.x.now in
    let y = datum c.args.y.now in
    let f : Option Datum → ℕ → Outcome = λ p now. op_of With (p ∷ Some y ∷ []) now in
    let e = ap (λ w. combined (Brace (Some x) ∷ []) (part w) f c.args.turns) c.in-Some.is ∙ one_image_more c.images_are_shallower.ensures (datum c.in-Some.whole) x y c.args.turns in
    subst (λ o. Updates o c.args.turns (Some (datum c.add_in.new.whole)) c.add_in.result) (sym e) c.add_in.ensures.updated
