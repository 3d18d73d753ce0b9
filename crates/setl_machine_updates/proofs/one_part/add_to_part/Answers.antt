use Rattle.std.proofs.Common.{◌∷◌, [], rules, Some}
use Rattle.std.proofs.lemmas.Option.{IfSome_then}
use Rattle.std.proofs.lemmas.Result.{IfOk-weaker}
use Rattle.setl_value.specs.code.DatumOf.{datum}
use Rattle.setl_operators_table.specs.declared.Operator.TheVariants.{With}
use Rattle.setl_operators_table.specs.Operators.{op_of}
use Rattle.setl_machine_updates.specs.Updates.{Updates}
use Rattle.setl_machine_updates.proofs.Parts.{part_changed}
use Rattle.setl_machine_updates.proofs.one_part.add_to_part.Goals as goal

pub returns-clause-updated : goal.returns-clause-updated
returns-clause-updated c =
    let y = datum c.args.value.now in
    IfOk-weaker c.change_part.result _ _
    (λ o h. IfSome_then o h (λ r k.
    let told : Updates (op_of With (Some k.old ∷ Some y ∷ []) c.args.turns) c.args.turns (Some k.new) r = search rules in
    part_changed (datum c.args.whole.now) (datum c.change_part.new.whole) (datum c.args.x.now) k.old k.new (λ p now. op_of With (p ∷ Some y ∷ []) now) c.args.turns r k.there k.written told))
    c.change_part.ensures.changed
