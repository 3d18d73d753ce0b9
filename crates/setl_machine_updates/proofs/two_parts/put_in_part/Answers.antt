use Rattle.std.proofs.Common.{◌≡◌, ℕ, true, rules, Some, Ok}
use Rattle.std.specs.Prelude.{IfOk}
use Rattle.std.proofs.lemmas.Result.{IfOk-weaker}
use Rattle.setl_value.specs.code.DatumOf.{datum}
use Rattle.setl_operators_table.specs.Outcome.{value}
use Rattle.setl_model.specs.Core.{Round}
use Rattle.setl_model.specs.Places.{with_part_at}
use Rattle.setl_machine_updates.proofs.Parts.{answered, part_changed, given_free}
use Rattle.setl_machine_updates.proofs.two_parts.put_in_part.Goals as goal

pub returns-in-Some-clause-put : goal.returns-in-Some-clause-put
returns-in-Some-clause-put c =
    let y = datum c.args.y.now in
    let new = datum c.args.new.now in
    let k = answered _ c.in_ok-change_part.field-0 c.in-Some.answer c.in-Some.is c.in_ok-change_part.ensures.changed in
    let told : IfOk c.in-Some.answer (λ done. done ≡ true → (left : ℕ) → with_part_at (Round (Some y)) (Some k.old) (Some new) left ≡ value k.new) = search rules in
    IfOk-weaker c.in-Some.answer _ _
    (λ done h t turns. part_changed (datum c.args.whole.now) (datum c.change_part.new.whole) (datum c.args.x.now) k.old k.new (λ p now. with_part_at (Round (Some y)) p (Some new) now) turns (Ok turns) k.there k.written (given_free _ turns k.new (h t turns)))
    told
