use Rattle.std.proofs.Common.{◌∷◌, [], rules, Some}
use Rattle.std.proofs.lemmas.Option.{IfSome_then}
use Rattle.std.proofs.lemmas.Result.{IfOk-weaker}
use Rattle.setl_value.specs.Datum.{tuple_of}
use Rattle.setl_value.specs.code.DatumOf.{datum}
use Rattle.setl_operators_table.specs.Operators.{op_of}
use Rattle.setl_machine_updates.specs.Updates.{Updates}
use Rattle.setl_machine_updates.proofs.Parts.{part_changed}
use Rattle.setl_machine_updates.proofs.two_parts.combine_in_tuple.Goals as goal

pub returns-clause-updated : goal.returns-clause-updated
returns-clause-updated c =
    let new = datum c.args.new.now in
    IfOk-weaker c.change_in_tuple.result _ _
    (λ o h. IfSome_then o h (λ r k.
    let told : Updates (op_of c.args.what (Some k.old ∷ Some new ∷ []) c.args.turns) c.args.turns (Some k.new) r = search rules in
    record { updates = part_changed (tuple_of c.args.t.now) (tuple_of c.change_in_tuple.new.t) (datum c.args.y.now) k.old k.new (λ p now. op_of c.args.what (p ∷ Some new ∷ []) now) c.args.turns r k.there k.written told }))
    c.change_in_tuple.ensures.changed
