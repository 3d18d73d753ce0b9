use Rattle.std.proofs.Common.{◌∷◌, [], rules, Some}
use Rattle.std.specs.Prelude.{IfOk, IfSome}
use Rattle.std.proofs.lemmas.Option.{IfSome_then}
use Rattle.std.proofs.lemmas.Result.{IfOk-weaker}
use Rattle.setl_value.specs.code.DatumOf.{datum}
use Rattle.setl_operators_table.specs.Operators.{op_of}
use Rattle.setl_model.specs.Core.{Round}
use Rattle.setl_model.specs.Places.{combined}
use Rattle.setl_machine_updates.specs.Changing.{CombinesAt}
use Rattle.setl_machine_updates.specs.Updates.{Updates}
use Rattle.setl_machine_updates.proofs.Parts.{answered, part_changed}
use Rattle.setl_machine_updates.proofs.two_parts.combine_in_part.Goals as goal

pub returns-in-Some-clause-updated : goal.returns-in-Some-clause-updated
returns-in-Some-clause-updated c =
    let y = datum c.args.y.now in
    let new = datum c.args.new.now in
    let turns = c.args.turns in
    answered (λ a. IfOk a (λ o. IfSome o (λ r. Updates (combined (Round (Some (datum c.args.x.now)) ∷ Round (Some y) ∷ []) (Some (datum c.args.whole.now)) (λ p now. op_of c.args.what (p ∷ Some new ∷ []) now) turns) turns (Some (datum c.change_part.new.whole)) r))) c.in_ok-change_part.field-0 c.in-Some.answer c.in-Some.is
    (IfSome_then c.in_ok-change_part.field-0 c.in_ok-change_part.ensures.changed (λ a k.
    let told : IfOk a (λ o. IfSome o (CombinesAt c.args.what y new turns k.old k.new)) = search rules in
    IfOk-weaker a _ _
    (λ o h. IfSome_then o h (λ r u.
    part_changed (datum c.args.whole.now) (datum c.change_part.new.whole) (datum c.args.x.now) k.old k.new (λ p now. combined (Round (Some y) ∷ []) p (λ q later. op_of c.args.what (q ∷ Some new ∷ []) later) now) turns r k.there k.written u.updates))
    told))
