use Rattle.std.proofs.Common.{Some, refl}
use Rattle.std.proofs.lemmas.Option.{IfSome_then}
use Rattle.std.proofs.lemmas.Result.{IfOk-weaker}
use Rattle.setl_value.specs.code.DatumOf.{datum}
use Rattle.setl_machine_updates.proofs.Inside.{combined_at_these}
use Rattle.setl_machine_updates.proofs.two_parts.combine_at_two.Goals as goal

pub returns-in-With-clause-updated : goal.returns-in-With-clause-updated
returns-in-With-clause-updated c =
    let old = Some (datum c.args.whole.now) in
    let new = Some (datum c.args.new.now) in
    IfOk-weaker c.combine_in_part.result _ _
    (λ o h. IfSome_then o h (λ r u. combined_at_these _ _ _ _ old old new new (Some (datum c.combine_in_part.new.whole)) c.args.what c.args.turns r c.in-Some.ensures c.in-Some-at_round.ensures refl refl u))
    c.combine_in_part.ensures.updated
