use Rattle.std.proofs.Common.{◌≡◌, ◌∷◌, [], true, rules, Some, Ok}
use Rattle.std.specs.Prelude.{IfOk, IfSome}
use Rattle.std.proofs.lemmas.Option.{IfSome_then}
use Rattle.std.proofs.lemmas.Result.{IfOk-weaker}
use Rattle.setl_value.specs.code.DatumOf.{datum}
use Rattle.setl_operators_table.specs.declared.Operator.TheVariants.{Less}
use Rattle.setl_operators_table.specs.Operators.{op_of}
use Rattle.setl_model.specs.Core.{Round}
use Rattle.setl_model.specs.Places.{combined}
use Rattle.setl_machine_updates.specs.Changing.{IsLessened}
use Rattle.setl_machine_updates.specs.Updates.{Updates}
use Rattle.setl_machine_updates.proofs.Parts.{answered, given_free, part_changed, when_ok}
use Rattle.setl_machine_updates.proofs.one_part.remove_from_part.Goals as goal

pub returns-then-branch-clause-updated : goal.returns-then-branch-clause-updated
returns-then-branch-clause-updated c =
    let y = datum c.args.value.now in
    let turns = c.args.turns in
    let done : IfOk c.in-Some.answer (λ d. d ≡ true → Updates (combined (Round (Some (datum c.args.x.now)) ∷ []) (Some (datum c.args.whole.now)) (λ p now. op_of Less (p ∷ Some y ∷ []) now) turns) turns (Some (datum c.change_part.new.whole)) (Ok turns)) =
    answered (λ a. IfOk a (λ d. d ≡ true → Updates (combined (Round (Some (datum c.args.x.now)) ∷ []) (Some (datum c.args.whole.now)) (λ p now. op_of Less (p ∷ Some y ∷ []) now) turns) turns (Some (datum c.change_part.new.whole)) (Ok turns))) c.in_ok-answer.field-0 c.in-Some.answer c.in-Some.is
    (IfSome_then c.in_ok-answer.field-0 c.in_ok-answer.ensures.changed (λ a k.
    let told : IfOk a (λ d. d ≡ true → IsLessened y k.old k.new) = search rules in
    IfOk-weaker a _ _
    (λ d h t. part_changed (datum c.args.whole.now) (datum c.change_part.new.whole) (datum c.args.x.now) k.old k.new (λ p now. op_of Less (p ∷ Some y ∷ []) now) turns (Ok turns) k.there k.written (given_free _ turns k.new ((h t).given turns)))
    told)) in
    when_ok _ c.in-Some.answer c.in_ok-answer-2.field-0 c.in_ok-answer-2.was done c.if-branch.true
