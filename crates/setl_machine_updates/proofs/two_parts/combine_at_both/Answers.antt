use Rattle.std.proofs.Common.{ap, Some, refl}
use Rattle.std.proofs.lemmas.Option.{IfSome_then}
use Rattle.std.proofs.lemmas.Result.{IfOk-weaker}
use Rattle.setl_value.specs.code.DatumOf.{datum, part}
use Rattle.setl_machine_updates.specs.Selectors.{selected}
use Rattle.setl_machine_updates.proofs.Inside.{combined_at_these}
use Rattle.setl_machine_updates.proofs.two_parts.combine_at_both.Goals as goal

pub returns-clause-updated : goal.returns-clause-updated
returns-clause-updated c =
    let a = selected c.args.first.now in
    let b = selected c.args.second.now in
    IfOk-weaker c.combine_at_two.result _ _
    (λ o h. IfSome_then o h (λ r u. combined_at_these a b a b (part c.args.whole.now) _ (part c.args.new.now) _ (Some (datum c.combine_at_two.new.whole)) c.args.what c.args.turns r refl refl (ap part c.in-Some.is) (ap part c.in-Some-new.is) u))
    c.combine_at_two.ensures.updated
