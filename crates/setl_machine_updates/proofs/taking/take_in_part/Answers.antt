use Rattle.std.proofs.Common.{ap, rules, Some, Ok}
use Rattle.std.specs.Prelude.{IfSome}
use Rattle.std.proofs.lemmas.Option.{IfSome_then}
use Rattle.setl_value.specs.code.DatumOf.{datum}
use Rattle.setl_model.specs.Core.{Round}
use Rattle.setl_machine_updates.specs.Changing.{IsTakenOut}
use Rattle.setl_machine_updates.specs.Takes.{Takes}
use Rattle.setl_machine_updates.proofs.Flattened.{taken_there}
use Rattle.setl_machine_updates.proofs.Parts.{answered}
use Rattle.setl_machine_updates.proofs.taking.take_in_part.Goals as goal

pub returns-clause-taken : goal.returns-clause-taken
returns-clause-taken c =
    answered _ c.in-Some.answer c.in-Some-answer.taken c.in-Some-answer.is
    (answered _ c.in_ok-answer.field-0 c.in-Some.answer c.in-Some.is
    (IfSome_then c.in_ok-answer.field-0 c.in_ok-answer.ensures.changed (λ a k.
    let told : IfSome a (IsTakenOut c.args.end k.old k.new) = search rules in
    IfSome_then a told (λ t h. taken_there c.args.end (datum c.args.whole.now) (datum c.change_part.new.whole) (datum c.args.x.now) k.old k.new c.args.turns t k.there k.written h (λ s. ap datum (k.same s))))))
